-- Clocks and stamps: by the name of their fields, and at a place.
-- Assumes nothing: these are definitions.
use Rattle.std.specs.Prelude.{ℕ, ◌+◌, List, Result, Err}
use Prim.Native.String.{◌++◌}
use Rattle.format.specs.Digits.{value_at}
use Rattle.format.specs.Syntax.{Name, Field, end}
use Rattle.format.specs.Tables.{clock}
use Rattle.format.specs.ByName.{the}
use Rattle.format.specs.At.{read, found_at}
use Rattle.format.specs.declared.Refusal.{Refusal}
use Rattle.format.specs.declared.Found.{Found}
use Rattle.clocks.specs.declared.Clock.{Clock}
use Rattle.clocks.specs.declared.Stamp.{Stamp}

-- the clock of a name, and the stamp of a name
abbrev pub clock_by : Name → List Field → Clock
clock_by c ts =
    record {
      base = the (c ++ "_base") ts;
      reserved = the (c ++ "_reserved_zero_future_use") ts;
      ext = the (c ++ "_ext") ts;
    }

abbrev pub stamp_by : Name → List Field → Stamp
stamp_by t ts =
    record {
      year = the (t ++ "_year") ts;
      reserved = the (t ++ "_reserved_zero_future_use") ts;
      day = the (t ++ "_day") ts;
      fraction = the (t ++ "_day_fraction") ts;
    }

-- reading a clock alone; under which name makes no difference
unfoldable pub clock_at : List ℕ → ℕ → Result (Found Clock) Refusal
clock_at b p = read b 0 (clock "ncr" end) p (λ ts q. found_at (clock_by "ncr" ts) q) Err

-- the clock and the stamp that the bits at a place spell
abbrev pub clock_of : List ℕ → ℕ → Clock
clock_of b p = record { base = value_at b p 33; reserved = value_at b (p + 33) 6; ext = value_at b (p + 39) 9 }

abbrev pub stamp_of : List ℕ → ℕ → Stamp
stamp_of b p =
    record { year = value_at b p 8; reserved = value_at b (p + 8) 7; day = value_at b (p + 15) 9; fraction = value_at b (p + 24) 32 }
