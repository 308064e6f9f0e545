-- Table id 4: the header and a satellite by the names of their fields.
-- Assumes nothing: these are definitions.
use Rattle.std.specs.Prelude.{ℕ, ◌+◌, List, eqb, Result, Err}
use Rattle.format.specs.Digits.{value_at}
use Rattle.format.specs.Syntax.{Syntax, Field, end}
use Rattle.format.specs.Tables.{◌>>◌, ◌>>=◌, bits, u, header, position3}
use Rattle.format.specs.ByName.{the}
use Rattle.format.specs.At.{read, found_at}
use Rattle.format.specs.declared.Refusal.{Refusal}
use Rattle.format.specs.declared.Found.{Found}
use Rattle.parts.specs.Parts.{part_by}
use Rattle.metadata.specs.Metadata.{maybe_metadata}
use Rattle.ephemeris.specs.Ephemeris.{entry_bits, maybe_covariance}
use Rattle.position_v3.specs.declared.PositionV3Header.{PositionV3Header}
use Rattle.position_v3.specs.declared.PositionV3Satellite.{PositionV3Satellite}
use Rattle.position_v3.specs.declared.Flags.{Flags}
use Rattle.position_v3.specs.declared.Front.{Front}

-- ---- the header

abbrev pub header_of : List Field → PositionV3Header
header_of ts =
    record {
      oem_version_major = the "oem_version_major" ts;
      oem_version_minor = the "oem_version_minor" ts;
      creation_date_year = the "creation_date_year" ts;
      creation_date_day = the "creation_date_day" ts;
      creation_date_day_fraction = the "creation_date_day_fraction" ts;
      creation_date_reserved_zero_future_use = the "creation_date_reserved_zero_future_use" ts;
    }

unfoldable pub header_at : List ℕ → Result (Found PositionV3Header) Refusal
header_at b = read b 0 header 0 (λ ts q. found_at (header_of ts) q) Err

-- ---- a satellite

-- p: the place at which its fields start
unfoldable pub satellite_v3_of : ℕ → List Field → PositionV3Satellite
satellite_v3_of p ts =
    record {
      satellite_id = the "satellite_id" ts;
      usable_start_time_flag = eqb (the "usable_start_time_flag" ts) 1;
      usable_stop_time_flag = eqb (the "usable_stop_time_flag" ts) 1;
      ephemeris_accel_flag = eqb (the "ephemeris_accel_flag" ts) 1;
      covariance_flag = eqb (the "covariance_flag" ts) 1;
      metadata = maybe_metadata (the "metadata_flag" ts) (the "usable_start_time_flag" ts)
          (the "usable_stop_time_flag" ts) ts;
      ephemeris_data = part_by "ephemeris_data_count" (entry_bits (the "ephemeris_accel_flag" ts)) p ts;
      covariance = maybe_covariance (the "covariance_flag" ts) ts;
      reserved_zero_future_use = the "reserved_zero_future_use" ts;
    }

unfoldable pub satellite_v3_at : List ℕ → ℕ → Result (Found PositionV3Satellite) Refusal
satellite_v3_at b p = read b 0 position3 p (λ ts q. found_at (satellite_v3_of p ts) q) Err

-- ---- its parts

-- the flags that a satellite keeps, and then what follows by them
abbrev pub flags : (ℕ → ℕ → ℕ → ℕ → Syntax) → Syntax
flags k = do
  start ← bits "usable_start_time_flag" 1
  stop ← bits "usable_stop_time_flag" 1
  accel ← bits "ephemeris_accel_flag" 1
  cov ← bits "covariance_flag" 1
  k start stop accel cov

-- the same behind the id, the reserved bits and the metadata's flag
abbrev pub front : (ℕ → ℕ → ℕ → ℕ → ℕ → Syntax) → Syntax
front k = do
  u "satellite_id" 24
  u "reserved_zero_future_use" 3
  meta ← bits "metadata_flag" 1
  flags (k meta)

abbrev pub flags_by : List Field → Flags
flags_by ts =
    record {
      start = eqb (the "usable_start_time_flag" ts) 1;
      stop = eqb (the "usable_stop_time_flag" ts) 1;
      accel = eqb (the "ephemeris_accel_flag" ts) 1;
      covariance = eqb (the "covariance_flag" ts) 1;
    }

abbrev pub front_by : List Field → Front
front_by ts =
    record {
      satellite_id = the "satellite_id" ts;
      reserved = the "reserved_zero_future_use" ts;
      metadata = eqb (the "metadata_flag" ts) 1;
      flags = flags_by ts;
    }

-- read alone
unfoldable pub flags_at : List ℕ → ℕ → Result (Found Flags) Refusal
flags_at b p = read b 0 (flags (λ _ _ _ _. end)) p (λ ts q. found_at (flags_by ts) q) Err

unfoldable pub front_at : List ℕ → ℕ → Result (Found Front) Refusal
front_at b p = read b 0 (front (λ _ _ _ _ _. end)) p (λ ts q. found_at (front_by ts) q) Err

-- what the bits at a place spell
abbrev pub front_of : List ℕ → ℕ → Front
front_of b p =
    record {
      satellite_id = value_at b p 24;
      reserved = value_at b (p + 24) 3;
      metadata = eqb (value_at b (p + 27) 1) 1;
      flags =
          record {
            start = eqb (value_at b (p + 28) 1) 1;
            stop = eqb (value_at b (p + 29) 1) 1;
            accel = eqb (value_at b (p + 30) 1) 1;
            covariance = eqb (value_at b (p + 31) 1) 1;
          };
    }
