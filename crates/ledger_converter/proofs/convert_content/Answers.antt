-- `convert_content` goes through plans, and copies every other content.
-- Assumes nothing.
use native.Mathlib.Omega.{arith}
use Rattle.std.proofs.lemmas.List.{take_rest}
use Rattle.format.proofs.DigitLaws.{below_of}
use Rattle.runs.proofs.Appends.{named}
use Rattle.ledger_converter.proofs.Contents.{plans_there, plans_in, same_in}
use Rattle.ledger_converter.proofs.convert_content.Goals as goal

pub convert_plans-requires : goal.convert_plans-requires
convert_plans-requires c =
    plans_there (below_of 256 c.args.ledger.now
    (λ i. omega (arith, c.type_inv.ledger i))) c.requires c.if-table_id-eq3.true

pub returns-then-table_id-eq3 : goal.returns-then-table_id-eq3
returns-then-table_id-eq3 c =
    plans_in (below_of 256 c.args.ledger.now
    (λ i. omega (arith, c.type_inv.ledger i))) c.requires c.if-table_id-eq3.true
    c.convert_plans.ensures

pub returns : goal.returns
returns c =
    same_in (below_of 256 c.args.ledger.now
    (λ i. omega (arith, c.type_inv.ledger i))) c.requires c.if-table_id-eq3.false
    (named (take_rest c.args.ledger.now 4) c.append.ensures)
