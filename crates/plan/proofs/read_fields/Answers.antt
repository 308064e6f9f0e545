-- `read_fields` meets its contract: one step a field, then the mode's.
-- Assumes nothing.
use mathlib.Core.Path.{◌∙◌}
use native.Mathlib.Omega.{arith}
use Rattle.format.proofs.Passed.{carried}
use Rattle.format.specs.Tables.{hopping}
use Rattle.bits.specs.Read.{Place}
use Rattle.bits.proofs.Answers.{next_place, got_fits}
use Rattle.clocks.proofs.Clocks.{clock_place}
use Rattle.plan_modes.proofs.Reached.{start, number, no_number, clocked, no_clock}
use Rattle.plan.specs.Plan.{fields_at}
use Rattle.plan.proofs.Fields.{Front, front_of, got_mode, cut_mode}
use Rattle.plan.proofs.read_fields.Goals as goal
use Rattle.plan.proofs.read_fields.Goals.{In_ok-kept, In_ok-kind, In_ok-cycle}

-- the places behind the first two fields, and what is known behind the four in front of the mode
second : (c : In_ok-kept) → Place c.args.from.body.now c.in_ok-kept.kept.next
second c = next_place _ 6 c.in_ok-kept.was c.read_u.ensures c.args.from.place.short

third : (c : In_ok-kind) → Place c.args.from.body.now c.in_ok-kind.kind.next
third c =
    let kind_read = rw (c.to.ensures.0, c.to.ensures.1) at c.read_u-2.ensures in
    next_place _ 2 c.in_ok-kind.was kind_read c.args.from.place.short

front : (c : In_ok-cycle) →
    Front c.args.from.body.now c.args.end c.args.head c.args.from.at c.in_ok-cycle.cycle.next
    c.in_ok-kept.kept.value c.in_ok-kind.kind.value
    c.in_ok-start.start.value c.in_ok-cycle.cycle.value
front c =
    let kind_read = rw (c.to.ensures.0, c.to.ensures.1) at c.read_u-2.ensures in
    let start_read = rw (c.to-2.ensures.0, c.to-2.ensures.1) at c.read_clock.ensures in
    let cycle_read = rw (c.to-3.ensures.0, c.to-3.ensures.1) at c.read_clock-2.ensures in
    front_of c.args.end c.args.head c.args.from.at c.args.from.place c.read_u.ensures c.in_ok-kept.was
    kind_read c.in_ok-kind.was start_read c.in_ok-start.was cycle_read c.in_ok-cycle.was

pub returns-in_err-kept : goal.returns-in_err-kept
unfolding fields_at
returns-in_err-kept c =
    carried c.from_residual.ensures
    ∙ no_number (start hopping _ _ _ c.args.from.place) c.read_u.ensures c.in_err-kept.was

pub to-requires : goal.to-requires
to-requires c = second (goal.at.to-requires c).In_ok-kept

pub returns-in_err-kind : goal.returns-in_err-kind
unfolding fields_at
returns-in_err-kind c =
    let kind_read = rw (c.to.ensures.0, c.to.ensures.1) at c.read_u-2.ensures in
    let t1 = number (start hopping _ _ _ c.args.from.place) c.read_u.ensures c.in_ok-kept.was in
    carried c.from_residual-in_err-kind.ensures ∙ no_number t1 kind_read c.in_err-kind.was

pub to-requires-2 : goal.to-requires-2
to-requires-2 c = third (goal.at.to-requires-2 c).In_ok-kind

pub returns-in_err-start : goal.returns-in_err-start
unfolding fields_at
returns-in_err-start c =
    let kind_read = rw (c.to.ensures.0, c.to.ensures.1) at c.read_u-2.ensures in
    let start_read = rw (c.to-2.ensures.0, c.to-2.ensures.1) at c.read_clock.ensures in
    let t1 = number (start hopping _ _ _ c.args.from.place) c.read_u.ensures c.in_ok-kept.was in
    let t2 = number t1 kind_read c.in_ok-kind.was in
    carried c.from_residual-in_err-start.ensures
    ∙ no_clock "time_of_application" t2 start_read c.in_err-start.was

pub to-requires-3 : goal.to-requires-3
to-requires-3 c =
    let start_read = rw (c.to-2.ensures.0, c.to-2.ensures.1) at c.read_clock.ensures in
    clock_place _ c.in_ok-start.was start_read (third (goal.at.to-requires-3 c).In_ok-kind)

pub returns-in_err-cycle : goal.returns-in_err-cycle
unfolding fields_at
returns-in_err-cycle c =
    let kind_read = rw (c.to.ensures.0, c.to.ensures.1) at c.read_u-2.ensures in
    let start_read = rw (c.to-2.ensures.0, c.to-2.ensures.1) at c.read_clock.ensures in
    let cycle_read = rw (c.to-3.ensures.0, c.to-3.ensures.1) at c.read_clock-2.ensures in
    let t1 = number (start hopping _ _ _ c.args.from.place) c.read_u.ensures c.in_ok-kept.was in
    let t2 = number t1 kind_read c.in_ok-kind.was in
    let t3 = clocked "time_of_application" t2 start_read c.in_ok-start.was in
    carried c.from_residual-in_err-cycle.ensures
    ∙ no_clock "cycle_duration" t3 cycle_read c.in_err-cycle.was

pub to-requires-4 : goal.to-requires-4
to-requires-4 c = (front (goal.at.to-requires-4 c).In_ok-cycle).reached.place

pub read_mode-requires : goal.read_mode-requires
read_mode-requires c =
    let t = front (goal.at.read_mode-requires c).In_ok-cycle in
    omega (arith, t.begins, c.to-4.ensures, c.requires)

pub returns-in_err-mode : goal.returns-in_err-mode
returns-in_err-mode c =
    let mode_read = rw (c.to-4.ensures.0, c.to-4.ensures.1) at c.read_mode.ensures in
    carried c.from_residual-in_err-mode.ensures
    ∙ cut_mode _ _ _ _ _ _ _ _ _ (front (goal.at.returns-in_err-mode c).In_ok-cycle)
    mode_read c.in_err-mode.was

pub overflow_cast-kept : goal.overflow_cast-kept
overflow_cast-kept c = got_fits _ _ 6 c.in_ok-kept.was c.read_u.ensures tt

pub overflow_cast-kind : goal.overflow_cast-kind
overflow_cast-kind c =
    let kind_read = rw (c.to.ensures.0, c.to.ensures.1) at c.read_u-2.ensures in
    got_fits _ _ 2 c.in_ok-kind.was kind_read tt

pub returns : goal.returns
returns c =
    let mode_read = rw (c.to-4.ensures.0, c.to-4.ensures.1) at c.read_mode.ensures in
    got_mode _ _ _ _ _ _ _ _ _ (front (goal.at.returns c).In_ok-cycle) mode_read
    c.in_ok-mode.was c.plan_of-plan.ensures
