-- `ledger_size`: the size that going through the content gives.
-- Assumes nothing.
use mathlib.Core.Path.{refl}
use mathlib.Core.List.{[]}
use Rattle.format.proofs.Passed.{carried}
use Rattle.ledger_writer.proofs.WrittenLaws.{layout_opaque, as_is, size_over, size_no, size_yes}
use Rattle.ledger_writer.proofs.ledger_size.Goals as goal

pub returns-then-long : goal.returns-then-long
returns-then-long c = size_over _ _ _ c.if-long.true

pub returns-then-table_id-gt4 : goal.returns-then-table_id-gt4
returns-then-table_id-gt4 c = size_yes c.if-long.false (as_is {out = []} (layout_opaque _ c.if-table_id-gt4.true) refl)

pub returns-in_err-content : goal.returns-in_err-content
returns-in_err-content c = rw (carried c.from_residual.ensures) (size_no c.if-long.false c.in_err-content.ensures)

pub returns : goal.returns
returns c = size_yes c.if-long.false c.in_ok-content.ensures.to
