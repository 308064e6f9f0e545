-- Table id 4: metadata and usable times by the names of their fields, and at a place.
-- Assumes nothing: these are definitions.
use Rattle.std.specs.Prelude.{ℕ, ◌+◌, ◌%◌, cond, List, eqb, Option, Some, None, Result, Err}
use Prim.Native.String.{◌++◌}
use Rattle.format.specs.Digits.{value_at}
use Rattle.format.specs.Refusals.{fault_number}
use Rattle.format.specs.Syntax.{Name, Syntax, Field, end, when}
use Rattle.format.specs.Tables.{usable, metadata}
use Rattle.format.specs.ByName.{the}
use Rattle.format.specs.At.{read, found_at}
use Rattle.format.specs.declared.Fault.{Fault}
use Rattle.format.specs.declared.Refusal.{Refusal}
use Rattle.format.specs.declared.Found.{Found}
use Rattle.metadata.specs.declared.InterpolationType.{InterpolationType}
use Rattle.metadata.specs.declared.InterpolationType.TheVariants.{Reserved0, Linear, Lagrange, Reserved3, Hermite, ReservedOther}
use Rattle.metadata.specs.declared.UsableTime.{UsableTime}
use Rattle.metadata.specs.declared.PositionV3Metadata.{PositionV3Metadata}

-- the type that a number's low three bits code, and the number that codes a type
unfoldable pub interpolation : ℕ → InterpolationType
interpolation v =
    cond (eqb (v % 8) 0) Reserved0
    (cond (eqb (v % 8) 1) Linear
    (cond (eqb (v % 8) 2) Lagrange
    (cond (eqb (v % 8) 3) Reserved3
    (cond (eqb (v % 8) 4) Hermite (ReservedOther (v % 8))))))

unfoldable pub interpolation_number : InterpolationType → ℕ
interpolation_number Reserved0 = 0
interpolation_number Linear = 1
interpolation_number Lagrange = 2
interpolation_number Reserved3 = 3
interpolation_number Hermite = 4
interpolation_number (ReservedOther v) = v

-- ---- by name

-- the usable time of a name, there if its flag is 1
abbrev pub usable_by : Name → List Field → UsableTime
usable_by t ts =
    record {
      year = the (t ++ "_year") ts;
      day = the (t ++ "_day") ts;
      day_fraction = the (t ++ "_day_fraction") ts;
      reserved_zero_future_use = the (t ++ "_reserved_zero_future_use") ts;
    }

abbrev pub maybe_usable : Name → ℕ → List Field → Option UsableTime
maybe_usable t flag ts = cond (eqb flag 1) (Some (usable_by t ts)) None

-- the metadata, with the usable times whose flags are 1
unfoldable pub metadata_by : ℕ → ℕ → List Field → PositionV3Metadata
metadata_by start stop ts =
    record {
      total_start_time_year = the "total_start_time_year" ts;
      total_start_time_day = the "total_start_time_day" ts;
      total_start_time_day_fraction = the "total_start_time_day_fraction" ts;
      total_stop_time_year = the "total_stop_time_year" ts;
      total_stop_time_day = the "total_stop_time_day" ts;
      total_stop_time_day_fraction = the "total_stop_time_day_fraction" ts;
      interpolation_flag = eqb (the "interpolation_flag" ts) 1;
      interpolation_type = interpolation (the "interpolation_type" ts);
      interpolation_degree = the "interpolation_degree" ts;
      usable_start_time = maybe_usable "usable_start_time" start ts;
      usable_stop_time = maybe_usable "usable_stop_time" stop ts;
      total_start_time_reserved_zero_future_use = the "total_start_time_reserved_zero_future_use" ts;
      total_stop_time_reserved_zero_future_use = the "total_stop_time_reserved_zero_future_use" ts;
      reserved_zero_future_use = the "metadata.reserved_zero_future_use" ts;
    }

-- the metadata, there if its own flag is 1
abbrev pub maybe_metadata : ℕ → ℕ → ℕ → List Field → Option PositionV3Metadata
maybe_metadata flag start stop ts = cond (eqb flag 1) (Some (metadata_by start stop ts)) None

-- ---- read alone

-- the metadata's lines if its flag is 1, and then others
abbrev pub optional : ℕ → ℕ → ℕ → Syntax → Syntax
optional flag start stop s = when (eqb flag 1) (metadata start stop s) s

-- which usable time a refusal's fault stands for: that of number 17 for the start, 18 for the stop
abbrev pub time_name : Fault → Name
time_name fault = cond (eqb (fault_number fault) 17) "usable_start_time" "usable_stop_time"

unfoldable pub usable_at : List ℕ → Fault → ℕ → ℕ → Result (Found (Option UsableTime)) Refusal
usable_at b fault flag p =
    read b 0 (usable fault (time_name fault) flag end) p
    (λ ts q. found_at (maybe_usable (time_name fault) flag ts) q) Err

unfoldable pub metadata_at : List ℕ → ℕ → ℕ → ℕ → ℕ → Result (Found (Option PositionV3Metadata)) Refusal
metadata_at b flag start stop p =
    read b 0 (optional flag start stop end) p (λ ts q. found_at (maybe_metadata flag start stop ts) q) Err

-- ---- what the bits at a place spell

abbrev pub usable_of : List ℕ → ℕ → UsableTime
usable_of b p =
    record {
      year = value_at b p 8;
      day = value_at b (p + 15) 9;
      day_fraction = value_at b (p + 24) 32;
      reserved_zero_future_use = value_at b (p + 8) 7;
    }

abbrev pub metadata_of : List ℕ → ℕ → Option UsableTime → Option UsableTime → PositionV3Metadata
metadata_of b p start stop =
    record {
      total_start_time_year = value_at b p 8;
      total_start_time_day = value_at b (p + 15) 9;
      total_start_time_day_fraction = value_at b (p + 24) 32;
      total_stop_time_year = value_at b (p + 56) 8;
      total_stop_time_day = value_at b (p + 71) 9;
      total_stop_time_day_fraction = value_at b (p + 80) 32;
      interpolation_flag = eqb (value_at b (p + 113) 1) 1;
      interpolation_type = interpolation (value_at b (p + 114) 3);
      interpolation_degree = value_at b (p + 117) 3;
      usable_start_time = start;
      usable_stop_time = stop;
      total_start_time_reserved_zero_future_use = value_at b (p + 8) 7;
      total_stop_time_reserved_zero_future_use = value_at b (p + 64) 7;
      reserved_zero_future_use = value_at b (p + 112) 1;
    }
