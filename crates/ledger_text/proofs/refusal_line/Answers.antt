-- `refusal_line` makes the line in 65 bytes of its own, and stores as many as it has.
-- Assumes nothing.
use mathlib.Core.Path.{◌∙◌}
use Rattle.ledger_text.proofs.Lines.{refusal_laid}
use Rattle.ledger_text.proofs.refusal_line.Goals as goal

pub returns : goal.returns
returns c =
    let first = rw c.new-line.ensures at c.push.ensures.items in
    let laid = refusal_laid _ _ _ _ _ _ _ _ first c.push_number.ensures.text c.push_number-2.ensures.text
    c.push_number-3.ensures.text c.push-2.ensures.items in
    rw (c.deref.ensures.0 ∙ laid) at c.put_line.ensures
