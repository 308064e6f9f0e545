-- `system_at` meets its contract: by the cases of the element's place and of its clock.
-- Assumes nothing.
use Rattle.std.proofs.Common.{refl, rules, arith}
use Rattle.format.specs.ByName.{first_by}
use Rattle.bits.proofs.Answers.{value_fits}
use Rattle.systems.proofs.Elements.{placed, clock_behind, no_element, element, was_read, was_refused, cut_system, id_and_clock}
use Rattle.systems.proofs.system_at.Goals as goal

pub returns-in_err-at : goal.returns-in_err-at
returns-in_err-at c = no_element _ _ 10 _ c.place_at.ensures _ _ _ c.in_err-at.was (search rules)

pub overflow_add-at : goal.overflow_add-at
overflow_add-at c =
    let there = (placed _ _ 10 _ c.place_at.ensures c.in_ok-at.was).room in
    record { fits = omega arith }

pub invariant_of-clock_within : goal.invariant_of-clock_within
invariant_of-clock_within c = record { place = clock_behind _ _ (placed _ _ 10 _ c.place_at.ensures c.in_ok-at.was).room }

pub clock_within-requires : goal.clock_within-requires
clock_within-requires c =
    let there = (placed _ _ 10 _ c.place_at.ensures c.in_ok-at.was).room in
    record { short = there.short; fits = omega arith }

pub returns-in_err-time : goal.returns-in_err-time
returns-in_err-time c =
    let there = placed _ _ 10 _ c.place_at.ensures c.in_ok-at.was in
    let no = was_refused c.ok.ensures.value c.in_err-time.was in
    element _ _ 10 _ c.place_at.ensures _ _ _ c.in_ok-at.was
    (cut_system _ _ _ _ _ "system_id" "time" _ there.room c.clock_within.ensures no.1 c.from_residual-in_err-time.ensures)

pub overflow_cast-result : goal.overflow_cast-result
overflow_cast-result c = search value_fits

pub returns : goal.returns
unfolding first_by
returns c =
    let there = placed _ _ 10 _ c.place_at.ensures c.in_ok-at.was in
    let read = was_read c.ok.ensures.value c.in_ok-time.was in
    element _ _ 10 _ c.place_at.ensures _ _ _ c.in_ok-at.was
    (id_and_clock _ _ _ _ "system_id" "time" there.room c.value_at.ensures c.clock_within.ensures read refl)
