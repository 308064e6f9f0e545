-- `write_content`: the content by the list of the table id, or by none.
-- Assumes nothing.
use native.Mathlib.Omega.{arith}
use Rattle.format.proofs.Passed.{carried}
use Rattle.format.proofs.NamedLaws.{named_list, named_none, layout_raw, headless}
use Rattle.write_runs.specs.Went.{outside}
use Rattle.write_runs.proofs.WentLaws.{stay}
use Rattle.format.specs.declared.tables.ListTable.TheVariants.{PositionV3}
use Rattle.ledger_writer.proofs.WrittenLaws.{as_is, once, listed, unheaded, header_ends}
use Rattle.ledger_writer.proofs.write_content.Goals as goal

pub returns-in-PositionV2 : goal.returns-in-PositionV2
returns-in-PositionV2 c =
    rw (named_list c.of.ensures c.in-Some.is)
    (listed c.in-Some.table (rw (headless c.in-PositionV2.is) (stay (omega arith))) c.write_entries.ensures)

pub returns-in_err-head-in-PositionV3 : goal.returns-in_err-head-in-PositionV3
returns-in_err-head-in-PositionV3 c =
    rw (carried c.from_residual.ensures, named_list c.of.ensures c.in-Some.is, c.in-PositionV3.is)
    (unheaded PositionV3 (c.in_err-head-in-PositionV3.ensures (outside c.args.edition)))

pub write_entries-requires-in-PositionV3 : goal.write_entries-requires-in-PositionV3
write_entries-requires-in-PositionV3 c =
    let w = (c.in_ok-head-in-PositionV3.ensures (outside c.args.edition)).to.1 in
    record { at_value = header_ends w; spare = omega (arith, w.slack) }

pub returns-in_ok-head-in-PositionV3 : goal.returns-in_ok-head-in-PositionV3
returns-in_ok-head-in-PositionV3 c =
    let r = (c.in_ok-head-in-PositionV3.ensures (outside c.args.edition)).to in
    rw (named_list c.of.ensures c.in-Some.is, c.in-PositionV3.is)
    (listed PositionV3 r.1 (rw (r.0, c.in-PositionV3.is) at c.write_entries-in-PositionV3.ensures))

pub returns-in-None : goal.returns-in-None
returns-in-None c = once c.if-table_id-eq2.true (c.write_association.ensures _)

pub returns-in-None-2 : goal.returns-in-None-2
returns-in-None-2 c =
    record { to = as_is (layout_raw _ (named_none c.of.ensures c.in-None.is) c.if-table_id-eq2.false) c.copy_bytes.ensures }
