-- `put` stores where there is room, by the bytes there are.
-- Assumes nothing.
use mathlib.Core.Path.{sym, ◌∙◌}
use native.Mathlib.Omega.{arith}
use Rattle.runs.proofs.Stores.{digits_fit, digits_short}
use Rattle.write_runs.proofs.put.Goals as goal

pub returns-then-out-place : goal.returns-then-out-place
returns-then-out-place c = sym (digits_short _ _ _ _ (omega arith))

pub returns : goal.returns
returns c = c.put_be.ensures ∙ sym (digits_fit _ _ _ _ (omega arith))
