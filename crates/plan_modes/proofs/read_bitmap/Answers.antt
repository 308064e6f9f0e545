-- `read_bitmap` meets its contract: the header's test.
-- Assumes nothing.
use mathlib.Core.Path.{◌∙◌}
use Rattle.format.proofs.Passed.{carried}
use Rattle.bit_reader.proofs.Reading.{enough_room}
use Rattle.plan_modes.specs.Modes.{bitmap_at}
use Rattle.plan_modes.proofs.Reached.{start, untested}
use Rattle.plan_modes.proofs.read_bitmap.Goals as goal

pub returns-in_err-enough : goal.returns-in_err-enough
unfolding bitmap_at
returns-in_err-enough c = λ e.
    carried c.from_residual.ensures ∙ untested (start _ _ _ _ c.args.from.place) c.enough.ensures c.in_err-enough.was

pub bitmap_at-requires-clause-room : goal.bitmap_at-requires-clause-room
bitmap_at-requires-clause-room c = enough_room _ _ _ _ c.enough.ensures c.in_ok-enough.was c.args.from.place
