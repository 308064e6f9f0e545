-- `put_line` copies the line where there is room for all of it.
-- Assumes nothing.
use native.Mathlib.Omega.{arith}
use Rattle.ledger_text.proofs.Lines.{put_stored, too_short}
use Rattle.ledger_text.proofs.put_line.Goals as goal

pub returns-then-out-size : goal.returns-then-out-size
returns-then-out-size c = too_short _ _ (omega arith)

pub returns : goal.returns
returns c = put_stored _ _ _ (omega arith) c.copy_from_slice.ensures.after
