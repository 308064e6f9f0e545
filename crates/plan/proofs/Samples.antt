-- Document 01's P7 and P8: 31 zero bytes but for plan_length, which is 24 or 25.
-- Assumes nothing.
use Prim.Native.Nat.{ℕ}
use mathlib.Core.Path.{◌≡◌, refl}
use mathlib.Core.List.{List, ◌++◌}
use lib.ListN.{replicate}
use Rattle.format.specs.Digits.{digits, value, bits_of}
use Rattle.std.specs.Prelude.{Err}
use Rattle.format.specs.Refusals.{refuse}
use Rattle.format.specs.Tables.{beamhopping}
use Rattle.format.specs.Body.{read_body}
use Rattle.format.specs.ByName.{first_by, from}
use Rattle.format.specs.At.{read, found_at}
use Rattle.format.specs.declared.Fault.TheVariants.{PlanOverrun}
use Rattle.plan_modes.specs.Modes.{plan_mode, mode_by}
use Rattle.plan.specs.Plan.{plan_at, plan_of, plan_from}
use Rattle.plan_modes.specs.declared.TimePlanMode.TheVariants.{DwellOnTime}
use Rattle.plan_modes.specs.declared.BeamhoppingMode.TheVariants.{Mode0}

abbrev sample : ℕ → List ℕ
sample n = replicate 4 0 ++ (digits 256 2 n ++ replicate 25 0)

pub p7 : plan_at (sample 24) 0 ≡ Err (refuse PlanOverrun 8 0)
unfolding plan_at read read_body beamhopping plan_of plan_from plan_mode mode_by first_by from digits value bits_of
p7 = refl

pub p8 : plan_at (sample 25) 0
    ≡ found_at (record {
      beamhopping_time_plan_id = 0;
      time_plan_mode = DwellOnTime;
      time_of_application_base = 0;
      time_of_application_ext = 0;
      cycle_duration_base = 0;
      cycle_duration_ext = 0;
      mode = Mode0 0 0 0 0 0 0;
      reserved_zero_future_use_4 = 0;
      reserved_zero_future_use_mode = 0;
      time_of_application_reserved_zero_future_use = 0;
      cycle_duration_reserved_zero_future_use = 0;
      plan_length = 25;
    }) 248
unfolding plan_at read read_body beamhopping plan_of plan_from plan_mode mode_by first_by from digits value bits_of
p8 = refl
