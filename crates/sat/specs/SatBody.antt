-- A whole body as the Rust's call gives it: the description's fields by name, and the lists of entries as parts of the
-- body's bytes.
-- Assumes nothing: these are definitions.
use Rattle.std.specs.Prelude.{ℕ, zero, suc, ◌-◌, ◌/◌, List, Result, Ok, Err}
use Rattle.format.specs.Syntax.{Field}
use Rattle.format.specs.Tables as tables
use Rattle.format.specs.Whole.{body_starts}
use Rattle.format.specs.ByName.{the}
use Rattle.format.specs.At.{read, seek}
use Rattle.format.specs.declared.Refusal.{Refusal}
use Rattle.parts.specs.declared.Part.{Part}
use Rattle.association.specs.Association.{association_of}
use Rattle.sat.specs.Sat.{raw_part}
use Rattle.sat.specs.declared.PositionV3Body.{PositionV3Body}
use Rattle.sat.specs.declared.SatBody.{SatBody}
use Rattle.sat.specs.declared.SatBody.TheVariants.{PositionV2, CellFragment, TimeAssociation, BeamhoppingTimePlan, PositionV3, Raw}

-- the part of n entries from the bit place p to e, where the reading ended: nothing of what is left over, and no byte
-- where there is no entry
abbrev pub list_part : ℕ → ℕ → ℕ → Part
list_part p e n = record { start = p / 8; length = (e - p) / 8; count = n }

-- id 2: the association from its fields
unfoldable pub association_body : List ℕ → Result SatBody Refusal
association_body b = read b 0 tables.association 0 (λ ts q. Ok (TimeAssociation (association_of ts))) Err

-- id 4: the header's fields, and the satellites behind them
abbrev pub position3_of : List Field → Part → PositionV3Body
position3_of ts part =
    record {
      oem_version_major = the "oem_version_major" ts;
      oem_version_minor = the "oem_version_minor" ts;
      creation_date_year = the "creation_date_year" ts;
      creation_date_day = the "creation_date_day" ts;
      creation_date_day_fraction = the "creation_date_day_fraction" ts;
      satellites = part;
      creation_date_reserved_zero_future_use = the "creation_date_reserved_zero_future_use" ts;
    }

unfoldable pub position3_body : List ℕ → ℕ → ℕ → Result SatBody Refusal
position3_body b n e = read b 0 tables.header 0 (λ ts q. Ok (PositionV3 (position3_of ts (list_part q e n)))) Err

-- a body under its id; n: its number of entries, e: where the reading ended
unfoldable pub typed_body : ℕ → List ℕ → ℕ → ℕ → Result SatBody Refusal
typed_body zero b n e = Ok (PositionV2 (record { satellites = list_part 0 e n }))
typed_body (suc zero) b n e = Ok (CellFragment (record { fragments = list_part 0 e n }))
typed_body (suc (suc zero)) b n e = association_body b
typed_body (suc (suc (suc zero))) b n e = Ok (BeamhoppingTimePlan (record { plans = list_part 0 e n }))
typed_body (suc (suc (suc (suc zero)))) b n e = position3_body b n e
typed_body (suc (suc (suc (suc (suc i))))) b n e = Ok (Raw (raw_part b))

-- once the whole body reads; its refusal otherwise
unfoldable pub sat_body_of : ℕ → List ℕ → Result SatBody Refusal
sat_body_of id b = seek b 0 (λ n p e. typed_body id b n e) Err (body_starts id b)
