-- `new_delivery_system_at` meets its contract: its fields are those of the system there.
-- Assumes nothing.
use Rattle.std.proofs.Common.{refl, rules}
use Rattle.std.specs.Prelude.{Some, None}
use Rattle.format.specs.ByName.{first_by}
use Rattle.systems.specs.Systems.{new_of}
use Rattle.systems.specs.declared.System.{System}
use Rattle.systems.specs.declared.NewDeliverySystem.{NewDeliverySystem}
use Rattle.systems.proofs.Elements.{given, named_as}
use Rattle.systems.proofs.new_delivery_system_at.Goals as goal

-- made of a system
abbrev made : System → NewDeliverySystem
made x =
    record { new_delivery_system_id = x.id; time_of_application_base = x.time.base; time_of_application_ext = x.time.ext; reserved_zero_future_use = x.time.reserved }

pub returns-in_err-system : goal.returns-in_err-system
unfolding first_by new_of given
returns-in_err-system c =
    named_as "new_delivery_system_id" "time_of_application" _ None (λ x. Some (made x)) (λ v k. refl) _ _ _ c.system_at.ensures c.in_err-system.was (search rules)

pub returns : goal.returns
unfolding first_by new_of given
returns c = named_as "new_delivery_system_id" "time_of_application" _ None (λ x. Some (made x)) (λ v k. refl) _ _ _ c.system_at.ensures c.in_ok-system.was refl
