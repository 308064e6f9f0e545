-- `read_dwell` meets its contract: two clocks behind one test.
-- Assumes nothing.
use mathlib.Core.Path.{◌∙◌}
use native.Mathlib.Omega.{arith}
use Rattle.format.specs.ByName.{first_by}
use Rattle.bits.specs.Read.{Room}
use Rattle.format.proofs.Passed.{carried}
use Rattle.bit_reader.proofs.Reading.{enough_room}
use Rattle.clocks.proofs.Clocks.{clock_place, clock_room}
use Rattle.plan_modes.specs.Modes.{dwell_at}
use Rattle.plan_modes.proofs.Reached.{start, tested, untested, clocked, no_clock, over}
use Rattle.plan_modes.proofs.read_dwell.Goals as goal
use Rattle.plan_modes.proofs.read_dwell.Goals.{In_ok-enough}

room : (c : In_ok-enough) → Room c.args.from.body.now c.args.from.at 96
room c = enough_room _ _ _ _ c.enough.ensures c.in_ok-enough.was c.args.from.place

pub returns-in_err-enough : goal.returns-in_err-enough
unfolding dwell_at
returns-in_err-enough c = λ e.
    carried c.from_residual.ensures ∙ untested (start _ _ _ _ c.args.from.place) c.enough.ensures c.in_err-enough.was

pub clock_within-requires : goal.clock_within-requires
clock_within-requires c =
    let r = room (goal.at.clock_within-requires c).In_ok-enough in record { short = r.short; fits = omega arith }

pub returns-in_err-dwell : goal.returns-in_err-dwell
unfolding dwell_at
returns-in_err-dwell c = λ e.
    carried c.from_residual-in_err-dwell.ensures
    ∙ no_clock "dwell_duration" (tested (start _ _ _ _ c.args.from.place) c.enough.ensures c.in_ok-enough.was)
    c.clock_within.ensures c.in_err-dwell.was

pub to-requires : goal.to-requires
to-requires c = clock_place c.args.from.at c.in_ok-dwell.was c.clock_within.ensures c.args.from.place

pub clock_within-requires-2 : goal.clock_within-requires-2
clock_within-requires-2 c =
    rw (c.to.ensures.0, c.to.ensures.1)
    (clock_room c.args.from.at 48 c.in_ok-dwell.was c.clock_within.ensures
    (room (goal.at.clock_within-requires-2 c).In_ok-enough))

pub returns-in_err-on : goal.returns-in_err-on
unfolding dwell_at
returns-in_err-on c = λ e.
    carried c.from_residual-in_err-on.ensures
    ∙ no_clock "on_time"
    (clocked "dwell_duration" (tested (start _ _ _ _ c.args.from.place) c.enough.ensures c.in_ok-enough.was)
    c.clock_within.ensures c.in_ok-dwell.was)
    (rw (c.to.ensures.0, c.to.ensures.1) at c.clock_within-2.ensures) c.in_err-on.was

pub returns : goal.returns
unfolding dwell_at first_by
returns c = λ e.
    over
    (clocked "on_time"
    (clocked "dwell_duration" (tested (start _ _ _ _ c.args.from.place) c.enough.ensures c.in_ok-enough.was)
    c.clock_within.ensures c.in_ok-dwell.was)
    (rw (c.to.ensures.0, c.to.ensures.1) at c.clock_within-2.ensures) c.in_ok-on.was)
