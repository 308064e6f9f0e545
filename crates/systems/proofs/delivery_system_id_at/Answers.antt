-- `delivery_system_id_at` meets its contract: by the case of the element's place.
-- Assumes nothing.
use Rattle.std.proofs.Common.{refl, rules}
use Rattle.format.specs.ByName.{first_by}
use Rattle.bits.proofs.Answers.{value_fits}
use Rattle.systems.proofs.Elements.{placed, no_element, element, id_alone}
use Rattle.systems.proofs.delivery_system_id_at.Goals as goal

pub returns-in_err-at : goal.returns-in_err-at
returns-in_err-at c = no_element _ _ 4 _ c.place_at.ensures _ _ _ c.in_err-at.was (search rules)

pub value_at-requires-clause-room : goal.value_at-requires-clause-room
value_at-requires-clause-room c = (placed _ _ 4 _ c.place_at.ensures c.in_ok-at.was).room

pub overflow_cast-result : goal.overflow_cast-result
overflow_cast-result c = search value_fits

pub returns : goal.returns
unfolding first_by
returns c =
    let there = placed _ _ 4 _ c.place_at.ensures c.in_ok-at.was in
    element _ _ 4 _ c.place_at.ensures _ _ _ c.in_ok-at.was (id_alone _ _ _ _ "delivery_system_id" there.room c.value_at.ensures refl)
