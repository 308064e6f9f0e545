-- `read_grid` meets its contract: four clocks, one step each, behind one test.
-- Assumes nothing.
use mathlib.Core.Path.{◌∙◌}
use native.Mathlib.Omega.{arith}
use Rattle.format.specs.ByName.{first_by}
use Rattle.format.specs.Tables.{grid}
use Rattle.bits.specs.Read.{Room}
use Rattle.format.proofs.Passed.{carried}
use Rattle.bit_reader.proofs.Reading.{enough_room}
use Rattle.clocks.proofs.Clocks.{clock_place, clock_room}
use Rattle.plan_modes.specs.Modes.{grid_at}
use Rattle.plan_modes.proofs.Reached.{start, tested, untested, clocked, no_clock, over}
use Rattle.plan_modes.proofs.read_grid.Goals as goal
use Rattle.plan_modes.proofs.read_grid.Goals.{In_ok-enough, In_ok-grid, In_ok-visit, In_ok-sleep}

-- the bits that are there behind the test, and behind each clock
room : (c : In_ok-enough) → Room c.args.from.body.now c.args.from.at 192
room c = enough_room _ _ _ _ c.enough.ensures c.in_ok-enough.was c.args.from.place

room_1 : (c : In_ok-grid) → Room c.args.from.body.now c.in_ok-grid.grid.next 144
room_1 c = clock_room c.args.from.at 144 c.in_ok-grid.was c.clock_within.ensures
    (enough_room _ _ _ _ c.enough.ensures c.in_ok-enough.was c.args.from.place)

room_2 : (c : In_ok-visit) → Room c.args.from.body.now c.in_ok-visit.visit.next 96
room_2 c =
    let r = clock_room c.args.from.at 144 c.in_ok-grid.was c.clock_within.ensures
    (enough_room _ _ _ _ c.enough.ensures c.in_ok-enough.was c.args.from.place) in
    clock_room _ 96 c.in_ok-visit.was (rw (c.to.ensures.0, c.to.ensures.1) at c.clock_within-2.ensures) r

pub to-requires : goal.to-requires
to-requires c = clock_place c.args.from.at c.in_ok-grid.was c.clock_within.ensures c.args.from.place

pub to-requires-2 : goal.to-requires-2
to-requires-2 c =
    let p = clock_place _ c.in_ok-visit.was c.clock_within-2.ensures c.to.result.place in rw c.to.ensures.0 at p

pub to-requires-3 : goal.to-requires-3
to-requires-3 c =
    let p = clock_place _ c.in_ok-sleep.was c.clock_within-3.ensures c.to-2.result.place in rw c.to-2.ensures.0 at p

pub returns-in_err-enough : goal.returns-in_err-enough
unfolding grid_at
returns-in_err-enough c = λ e. carried c.from_residual.ensures
    ∙ untested (start grid _ _ _ c.args.from.place) c.enough.ensures c.in_err-enough.was

pub clock_within-requires : goal.clock_within-requires
clock_within-requires c =
    let r = room (goal.at.clock_within-requires c).In_ok-enough in record { short = r.short; fits = omega arith }

pub clock_within-requires-2 : goal.clock_within-requires-2
clock_within-requires-2 c =
    let r = room_1 (goal.at.clock_within-requires-2 c).In_ok-grid in
    rw (c.to.ensures.0, c.to.ensures.1) (record { short = r.short; fits = omega arith })

pub clock_within-requires-3 : goal.clock_within-requires-3
clock_within-requires-3 c =
    let r = room_2 (goal.at.clock_within-requires-3 c).In_ok-visit in
    rw (c.to-2.ensures.0, c.to-2.ensures.1) (record { short = r.short; fits = omega arith })

pub clock_within-requires-4 : goal.clock_within-requires-4
clock_within-requires-4 c =
    let r = room_2 (goal.at.clock_within-requires-4 c).In_ok-visit in
    rw (c.to-3.ensures.0, c.to-3.ensures.1)
    (clock_room _ 48 c.in_ok-sleep.was (rw (c.to-2.ensures.0, c.to-2.ensures.1) at c.clock_within-3.ensures) r)

pub returns-in_err-grid : goal.returns-in_err-grid
unfolding grid_at
returns-in_err-grid c = λ e.
    let t = tested (start grid _ _ _ c.args.from.place) c.enough.ensures c.in_ok-enough.was in
    carried c.from_residual-in_err-grid.ensures ∙ no_clock "grid_size" t c.clock_within.ensures c.in_err-grid.was

pub returns-in_err-visit : goal.returns-in_err-visit
unfolding grid_at
returns-in_err-visit c = λ e.
    let visit_read = rw (c.to.ensures.0, c.to.ensures.1) at c.clock_within-2.ensures in
    let t = tested (start grid _ _ _ c.args.from.place) c.enough.ensures c.in_ok-enough.was in
    let t1 = clocked "grid_size" t c.clock_within.ensures c.in_ok-grid.was in
    carried c.from_residual-in_err-visit.ensures ∙ no_clock "revisit_duration" t1 visit_read c.in_err-visit.was

pub returns-in_err-sleep : goal.returns-in_err-sleep
unfolding grid_at
returns-in_err-sleep c = λ e.
    let visit_read = rw (c.to.ensures.0, c.to.ensures.1) at c.clock_within-2.ensures in
    let sleep_read = rw (c.to-2.ensures.0, c.to-2.ensures.1) at c.clock_within-3.ensures in
    let t = tested (start grid _ _ _ c.args.from.place) c.enough.ensures c.in_ok-enough.was in
    let t1 = clocked "grid_size" t c.clock_within.ensures c.in_ok-grid.was in
    let t2 = clocked "revisit_duration" t1 visit_read c.in_ok-visit.was in
    carried c.from_residual-in_err-sleep.ensures ∙ no_clock "sleep_time" t2 sleep_read c.in_err-sleep.was

pub returns-in_err-span : goal.returns-in_err-span
unfolding grid_at
returns-in_err-span c = λ e.
    let visit_read = rw (c.to.ensures.0, c.to.ensures.1) at c.clock_within-2.ensures in
    let sleep_read = rw (c.to-2.ensures.0, c.to-2.ensures.1) at c.clock_within-3.ensures in
    let span_read = rw (c.to-3.ensures.0, c.to-3.ensures.1) at c.clock_within-4.ensures in
    let t = tested (start grid _ _ _ c.args.from.place) c.enough.ensures c.in_ok-enough.was in
    let t1 = clocked "grid_size" t c.clock_within.ensures c.in_ok-grid.was in
    let t2 = clocked "revisit_duration" t1 visit_read c.in_ok-visit.was in
    let t3 = clocked "sleep_time" t2 sleep_read c.in_ok-sleep.was in
    carried c.from_residual-in_err-span.ensures ∙ no_clock "sleep_duration" t3 span_read c.in_err-span.was

pub returns : goal.returns
unfolding grid_at first_by
returns c = λ e.
    let visit_read = rw (c.to.ensures.0, c.to.ensures.1) at c.clock_within-2.ensures in
    let sleep_read = rw (c.to-2.ensures.0, c.to-2.ensures.1) at c.clock_within-3.ensures in
    let span_read = rw (c.to-3.ensures.0, c.to-3.ensures.1) at c.clock_within-4.ensures in
    let t = tested (start grid _ _ _ c.args.from.place) c.enough.ensures c.in_ok-enough.was in
    let t1 = clocked "grid_size" t c.clock_within.ensures c.in_ok-grid.was in
    let t2 = clocked "revisit_duration" t1 visit_read c.in_ok-visit.was in
    let t3 = clocked "sleep_time" t2 sleep_read c.in_ok-sleep.was in
    over (clocked "sleep_duration" t3 span_read c.in_ok-span.was)
