-- Table id 4: an ephemeris entry by its index within the part that holds the entries.
-- Assumes nothing: these are definitions.
use Rattle.std.specs.Prelude.{ℕ, ◌+◌, ◌*◌, ◌≡◌, Bool, true, cond, List, leb, ltb, length, Option, Some, None}
use Rattle.format.specs.Digits.{value_at}
use Rattle.format.specs.Syntax.{Syntax, Field, end, when}
use Rattle.format.specs.Tables.{motion, acceleration}
use Rattle.format.specs.ByName.{the}
use Rattle.format.specs.At.{read}
use Rattle.bits.specs.Read.{Room}
use Rattle.parts.specs.declared.Part.{Part}
use Rattle.ephemeris.specs.declared.EphemerisAccel.{EphemerisAccel}
use Rattle.ephemeris.specs.declared.EphemerisData.{EphemerisData}

-- ---- by name

abbrev pub accel_by : List Field → EphemerisAccel
accel_by ts =
    record {
      ephemeris_x_ddot = the "ephemeris_x_ddot" ts;
      ephemeris_y_ddot = the "ephemeris_y_ddot" ts;
      ephemeris_z_ddot = the "ephemeris_z_ddot" ts;
    }

abbrev pub ephemeris_by : Bool → List Field → EphemerisData
ephemeris_by accel ts =
    record {
      epoch_year = the "epoch_year" ts;
      epoch_day = the "epoch_day" ts;
      epoch_day_fraction = the "epoch_day_fraction" ts;
      ephemeris_x = the "ephemeris_x" ts;
      ephemeris_y = the "ephemeris_y" ts;
      ephemeris_z = the "ephemeris_z" ts;
      ephemeris_x_dot = the "ephemeris_x_dot" ts;
      ephemeris_y_dot = the "ephemeris_y_dot" ts;
      ephemeris_z_dot = the "ephemeris_z_dot" ts;
      acceleration = cond accel (Some (accel_by ts)) None;
      reserved_zero_future_use = the "epoch_reserved_zero_future_use" ts;
    }

-- ---- by index

-- an entry's own lines, without the test in front of them
abbrev pub entry : Bool → Syntax
entry accel = when accel (motion (acceleration end)) (motion end)

-- its bytes
abbrev pub entry_bytes : Bool → ℕ
entry_bytes accel = cond accel 43 31

-- none unless the index is below the count, the body at most 4096 bytes long, and the entry within the body
unfoldable pub ephemeris_data_at : List ℕ → Part → Bool → ℕ → Option EphemerisData
ephemeris_data_at b part accel index =
    let size : ℕ = entry_bytes accel in
    let at : ℕ = part.start + size * index in
    let more : Option EphemerisData =
    read b 0 (entry accel) (8 * at) (λ ts q. Some (ephemeris_by accel ts)) (λ f. None) in
    cond (ltb index part.count) (cond (leb (length b) 4096) (cond (leb (at + size) (length b)) more None) None) None

-- ---- what the bits at a place spell

abbrev pub entry_width : Bool → ℕ
entry_width accel = cond accel 344 248

-- the acceleration of an entry at p is there, if it has one
pub record Ahead (b : List ℕ) (accel : Bool) (p : ℕ) : Type 0 where
  pub ahead : accel ≡ true → Room b p 344

abbrev pub accel_of : List ℕ → ℕ → Bool → Option EphemerisAccel
accel_of b p accel =
    cond accel
    (Some
    (record {
      ephemeris_x_ddot = value_at b (p + 248) 32;
      ephemeris_y_ddot = value_at b (p + 280) 32;
      ephemeris_z_ddot = value_at b (p + 312) 32;
    }))
    None

abbrev pub entry_of : List ℕ → ℕ → Bool → EphemerisData
entry_of b p accel =
    record {
      epoch_year = value_at b p 8;
      epoch_day = value_at b (p + 15) 9;
      epoch_day_fraction = value_at b (p + 24) 32;
      ephemeris_x = value_at b (p + 56) 32;
      ephemeris_y = value_at b (p + 88) 32;
      ephemeris_z = value_at b (p + 120) 32;
      ephemeris_x_dot = value_at b (p + 152) 32;
      ephemeris_y_dot = value_at b (p + 184) 32;
      ephemeris_z_dot = value_at b (p + 216) 32;
      acceleration = accel_of b p accel;
      reserved_zero_future_use = value_at b (p + 8) 7;
    }
