-- `read_fields` goes through a table by the layout of its id.
-- Assumes nothing.
use mathlib.Core.Path.{refl}
use native.Mathlib.Omega.{arith}
use borrow.Author.Rules.{rules}
use Rattle.format.specs.Lists.{list_id, least_bits}
use Rattle.format.specs.Tables.{position3}
use Rattle.read_runs.specs.Came.{some_way}
use Rattle.format.proofs.FineTables.{fine_header}
use Rattle.format.proofs.DigitLaws.{below_of}
use Rattle.format.proofs.NamedLaws.{named_list, named_none, layout_raw, layout_list, headless}
use Rattle.read_plans.proofs.TakenLaws.{as_taken}
use Rattle.ledger_reader.proofs.Entries.{took_whole, holds_no, list_in}
use Rattle.ledger_reader.proofs.Fields.{sole_holds, opaque_holds, no_head, head_no, list_holds}
use Rattle.ledger_reader.proofs.read_fields.Goals as goal

pub returns-in-PositionV2 : goal.returns-in-PositionV2
returns-in-PositionV2 c =
    let t = c.in-Some.table in
    rw (named_list c.of.ensures c.in-Some.is, layout_list t, headless c.in-PositionV2.is)
    (list_holds (least_bits (list_id t)) _ (no_head c.requires.four) c.read_list.ensures)

pub returns-in_err-header-in-PositionV3 : goal.returns-in_err-header-in-PositionV3
returns-in_err-header-in-PositionV3 c =
    rw (named_list c.of.ensures c.in-Some.is, c.in-PositionV3.is)
    (holds_no (search rules) (head_no 32 position3 (c.in_err-header-in-PositionV3.ensures _).to))

pub read_list-requires-in-PositionV3-clause-ahead : goal.read_list-requires-in-PositionV3-clause-ahead
read_list-requires-in-PositionV3-clause-ahead c = omega (arith, (c.in_ok-header-in-PositionV3.ensures some_way).to.came.slack)

pub read_list-requires-in-PositionV3-clause-at_value : goal.read_list-requires-in-PositionV3-clause-at_value
read_list-requires-in-PositionV3-clause-at_value c =
    took_whole fine_header (below_of 256 c.args.ledger.now (λ i. omega (arith, c.type_inv.ledger i))) refl
    (as_taken (c.in_ok-header-in-PositionV3.ensures some_way)).to.took

pub returns-in_ok-header-in-PositionV3 : goal.returns-in_ok-header-in-PositionV3
returns-in_ok-header-in-PositionV3 c =
    let w = (as_taken (c.in_ok-header-in-PositionV3.ensures _)).to in
    rw (named_list c.of.ensures c.in-Some.is, c.in-PositionV3.is)
    (list_holds 32 position3 w.took
    (list_in c.args.edition position3 c.in_ok-header-in-PositionV3.header.place w.same (rw c.in-PositionV3.is at c.read_list-in-PositionV3.ensures)))

pub returns-in-None : goal.returns-in-None
returns-in-None c = rw c.if-table_id-eq2.true (sole_holds (as_taken (c.read_association.ensures _)))

pub returns-in-None-2 : goal.returns-in-None-2
returns-in-None-2 c =
    rw (layout_raw _ (named_none c.of.ensures c.in-None.is) c.if-table_id-eq2.false)
    (record { to = opaque_holds _ c.requires.four c.copy_opaque.ensures })
