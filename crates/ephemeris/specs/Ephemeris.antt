-- Table id 4: ephemeris data and covariance by the names of their fields, and at a place.
-- Assumes nothing: these are definitions.
use Rattle.std.specs.Prelude.{ℕ, zero, suc, ◌+◌, cond, List, [], ◌∷◌, eqb, Option, Some, None, Result, Err}
use lib.Text.{eqt}
use Rattle.format.specs.Digits.{value_at}
use Rattle.format.specs.Syntax.{Name, Syntax, Field, end, need, when}
use Rattle.format.specs.Tables.{bits, u, times, stamp, ephemeris}
use Rattle.format.specs.ByName.{name, number_in, the}
use Rattle.format.specs.At.{read, found_at}
use Rattle.format.specs.declared.Refusal.{Refusal}
use Rattle.format.specs.declared.Found.{Found}
use Rattle.format.specs.declared.Fault.TheVariants.{CovarianceCut}
use Rattle.parts.specs.Parts.{part_by}
use Rattle.parts.specs.declared.Part.{Part}
use Rattle.ephemeris.specs.declared.CovarianceData.{CovarianceData}

-- ---- the ephemeris data

-- the bits of an entry, by the acceleration's flag
abbrev pub entry_bits : ℕ → ℕ
entry_bits accel = cond (eqb accel 1) 344 248

-- the count, so many entries, and then others
abbrev pub counted : ℕ → Syntax → Syntax
counted accel s = bits "ephemeris_data_count" 16 (λ n. times n (ephemeris accel) s)

-- the part that holds the entries, read alone
unfoldable pub ephemerides_at : List ℕ → ℕ → ℕ → Result (Found Part) Refusal
ephemerides_at b accel p =
    read b 0 (counted accel end) p (λ ts q. found_at (part_by "ephemeris_data_count" (entry_bits accel) p ts) q) Err

-- ---- the covariance

-- its lines if its flag is 1, and then others
abbrev pub closing : ℕ → Syntax → Syntax
closing flag s =
    when (eqb flag 1) (need CovarianceCut 728 (stamp "covariance_epoch" (times 21 (u "covariance_elements" 32) s))) s

-- the numbers of all the fields of a name, in order
unfoldable pub all_by : Name → List Field → List ℕ
all_by nm [] = []
all_by nm (t ∷ ts) = cond (eqt nm (name t)) (number_in t ∷ all_by nm ts) (all_by nm ts)

-- the covariance by name, there if its flag is 1
abbrev pub covariance_by : List Field → CovarianceData
covariance_by ts =
    record {
      covariance_epoch_year = the "covariance_epoch_year" ts;
      covariance_epoch_day = the "covariance_epoch_day" ts;
      covariance_epoch_day_fraction = the "covariance_epoch_day_fraction" ts;
      covariance_elements = all_by "covariance_elements" ts;
      covariance_epoch_reserved_zero_future_use = the "covariance_epoch_reserved_zero_future_use" ts;
    }

abbrev pub maybe_covariance : ℕ → List Field → Option CovarianceData
maybe_covariance flag ts = cond (eqb flag 1) (Some (covariance_by ts)) None

-- read alone
unfoldable pub covariance_at : List ℕ → ℕ → ℕ → Result (Found (Option CovarianceData)) Refusal
covariance_at b flag p = read b 0 (closing flag end) p (λ ts q. found_at (maybe_covariance flag ts) q) Err

-- ---- what the bits at a place spell

-- n values of 32 bits, one behind another
unfoldable pub words_at : List ℕ → ℕ → ℕ → List ℕ
words_at b p zero = []
words_at b p (suc n) = value_at b p 32 ∷ words_at b (p + 32) n

abbrev pub covariance_of : List ℕ → ℕ → CovarianceData
covariance_of b p =
    record {
      covariance_epoch_year = value_at b p 8;
      covariance_epoch_day = value_at b (p + 15) 9;
      covariance_epoch_day_fraction = value_at b (p + 24) 32;
      covariance_elements = words_at b (p + 56) 21;
      covariance_epoch_reserved_zero_future_use = value_at b (p + 8) 7;
    }
