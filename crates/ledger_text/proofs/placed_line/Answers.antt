-- `placed_line` stores the place, a space and the line where there is room for all.
-- Assumes nothing.
use native.Mathlib.Omega.{arith}
use mathlib.Core.Path.{◌∙◌}
use Rattle.ledger_text.specs.Text.{placed}
use Rattle.ledger_text.proofs.Lines.{placed_laid, placed_length, placed_stored, too_short}
use Rattle.ledger_text.proofs.placed_line.Goals as goal

pub returns-then-size-out : goal.returns-then-size-out
returns-then-size-out c =
    let digits = rw c.new-front.ensures at c.push_digits.ensures.text in
    let laid = placed_laid c.args.place c.args.line.now _ _ digits c.push.ensures.items in
    let long = placed_length c.args.place c.args.line.now c.push.new.self.items laid in
    too_short (placed c.args.place c.args.line.now) c.args.out.now (omega (arith, long, c.len-start.ensures.value))

pub returns : goal.returns
returns c =
    let digits = rw c.new-front.ensures at c.push_digits.ensures.text in
    let laid = placed_laid c.args.place c.args.line.now _ _ digits c.push.ensures.items in
    placed_stored _ _ _ _ _ _ _ laid c.len-start.ensures.value (omega arith)
    (c.copy_from_slice.ensures.after ∙ c.deref.ensures.0) c.copy_from_slice-2.ensures.after
