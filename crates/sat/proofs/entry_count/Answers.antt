-- The walk's number of entries, or its refusal.
-- Assumes nothing.
use mathlib.Core.Path.{refl}
use Rattle.format.proofs.Passed.{carried}
use Rattle.sat.specs.Sat.{count_of}
use Rattle.sat.proofs.Made.{walked_on, walked_off}
use Rattle.sat.proofs.entry_count.Goals as goal

pub returns-in_err-walk : goal.returns-in_err-walk
unfolding count_of
returns-in_err-walk c = rw (carried c.from_residual.ensures) (walked_off _ 0 _ _ _ c.walk_body.ensures.value c.in_err-walk.was refl)

pub returns : goal.returns
unfolding count_of
returns c = walked_on _ 0 _ _ _ c.walk_body.ensures.value c.in_ok-walk.was refl
