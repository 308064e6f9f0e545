-- A plan's mode from its fields, each by its name.
-- Assumes nothing: these are definitions.
use Rattle.std.specs.Prelude.{ℕ, ◌/◌, ◌%◌, cond, List, eqb, Result, Err}
use Rattle.format.specs.Syntax.{Field, raw}
use Rattle.format.specs.Tables.{dwell, bitmap, grid, mode}
use Rattle.format.specs.Body.{wholes}
use Rattle.format.specs.ByName.{the, slots_on_of, from}
use Rattle.format.specs.At.{read, found_at}
use Rattle.format.specs.declared.Refusal.{Refusal}
use Rattle.format.specs.declared.Found.{Found}
use Rattle.plan_modes.specs.declared.TimePlanMode.{TimePlanMode}
use Rattle.plan_modes.specs.declared.TimePlanMode.TheVariants.{DwellOnTime, Bitmap, GridRevisitSleep}
use Rattle.plan_modes.specs.declared.TimePlanMode.TheVariants as kind
use Rattle.plan_modes.specs.declared.BeamhoppingMode.{BeamhoppingMode}
use Rattle.plan_modes.specs.declared.BeamhoppingMode.TheVariants.{Mode0, Mode1, Mode2, Reserved}

-- the mode of a number, of which two bits count; and the number of a mode
unfoldable pub plan_mode : ℕ → TimePlanMode
plan_mode v =
    cond (eqb (v % 4) 0) DwellOnTime
    (cond (eqb (v % 4) 1) Bitmap
    (cond (eqb (v % 4) 2) GridRevisitSleep (kind.Reserved (v % 4))))

unfoldable pub plan_mode_number : TimePlanMode → ℕ
plan_mode_number DwellOnTime = 0
plan_mode_number Bitmap = 1
plan_mode_number GridRevisitSleep = 2
plan_mode_number (kind.Reserved v) = v

-- ---- a mode from its fields; p: the place at which the fields start

abbrev pub dwell_by : List Field → BeamhoppingMode
dwell_by ts =
    Mode0
    (the "dwell_duration_base" ts)
    (the "dwell_duration_ext" ts)
    (the "on_time_base" ts)
    (the "on_time_ext" ts)
    (the "dwell_duration_reserved_zero_future_use" ts)
    (the "on_time_reserved_zero_future_use" ts)

-- the slots' part: the bytes that hold them, and how many slots there are
abbrev pub bitmap_by : ℕ → List Field → BeamhoppingMode
bitmap_by p ts =
    Mode1
    (the "bit_map_size" ts)
    (the "current_slot" ts)
    (record {
      start = from "slot_transmission_on" p ts / 8;
      length = wholes (the "bit_map_size" ts);
      count = the "bit_map_size" ts;
    })
    (slots_on_of "slot_transmission_on" ts)
    (the "reserved_zero_future_use_size" ts)
    (the "reserved_zero_future_use_slot" ts)

abbrev pub grid_by : List Field → BeamhoppingMode
grid_by ts =
    Mode2
    (the "grid_size_base" ts)
    (the "grid_size_ext" ts)
    (the "revisit_duration_base" ts)
    (the "revisit_duration_ext" ts)
    (the "sleep_time_base" ts)
    (the "sleep_time_ext" ts)
    (the "sleep_duration_base" ts)
    (the "sleep_duration_ext" ts)
    (the "grid_size_reserved_zero_future_use" ts)
    (the "revisit_duration_reserved_zero_future_use" ts)
    (the "sleep_time_reserved_zero_future_use" ts)
    (the "sleep_duration_reserved_zero_future_use" ts)

-- the raw bytes' part: its elements are its bytes
abbrev pub raw_by : ℕ → List Field → BeamhoppingMode
raw_by p ts =
    Reserved (record {
      start = from "reserved" p ts / 8;
      length = the "reserved" ts / 8;
      count =
          the "reserved" ts / 8;
    })

unfoldable pub mode_by : ℕ → ℕ → List Field → BeamhoppingMode
mode_by p m ts =
    cond (eqb m 0) (dwell_by ts) (cond (eqb m 1) (bitmap_by p ts) (cond (eqb m 2) (grid_by ts) (raw_by p ts)))

-- ---- what is at a place: a mode by its number, and each of the four; e: where the plan ends

unfoldable pub mode_at : List ℕ → ℕ → ℕ → ℕ → Result (Found BeamhoppingMode) Refusal
mode_at b e m p = read b e (mode m) p (λ ts q. found_at (mode_by p m ts) q) Err

unfoldable pub dwell_at : List ℕ → ℕ → ℕ → Result (Found BeamhoppingMode) Refusal
dwell_at b e p = read b e dwell p (λ ts q. found_at (dwell_by ts) q) Err

unfoldable pub bitmap_at : List ℕ → ℕ → ℕ → Result (Found BeamhoppingMode) Refusal
bitmap_at b e p = read b e bitmap p (λ ts q. found_at (bitmap_by p ts) q) Err

unfoldable pub grid_at : List ℕ → ℕ → ℕ → Result (Found BeamhoppingMode) Refusal
grid_at b e p = read b e grid p (λ ts q. found_at (grid_by ts) q) Err

unfoldable pub raw_at : List ℕ → ℕ → ℕ → Result (Found BeamhoppingMode) Refusal
raw_at b e p = read b e (raw "reserved") p (λ ts q. found_at (raw_by p ts) q) Err
