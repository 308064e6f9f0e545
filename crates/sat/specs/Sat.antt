-- What a caller gets of a body: its entries by their number and their index, each from the description's fields, and its header.
-- Assumes nothing: these are definitions.
use Rattle.std.specs.Prelude.{ℕ, zero, suc, cond, List, eqb, length, Option, Some, None, Result, Ok, Err}
use Rattle.format.specs.Tables as tables
use Rattle.format.specs.Whole.{body_starts}
use Rattle.format.specs.At.{read, seek, entry_in}
use Rattle.format.specs.declared.Refusal.{Refusal}
use Rattle.parts.specs.declared.Part.{Part}
use Rattle.position.specs.Satellite.{satellite_of}
use Rattle.fragment.specs.Fragment.{fragment_of}
use Rattle.association.specs.Association.{association_of}
use Rattle.plan.specs.Plan.{plan_of}
use Rattle.position_v3.specs.PositionV3.{header_of, satellite_v3_of}
use Rattle.position_v3.specs.declared.PositionV3Header.{PositionV3Header}
use Rattle.sat.specs.declared.SatEntry.{SatEntry}
use Rattle.sat.specs.declared.SatEntry.TheVariants.{PositionV2, CellFragment, TimeAssociation, BeamhoppingTimePlan, PositionV3, Raw}

-- the number of entries
unfoldable pub count_of : ℕ → List ℕ → Result ℕ Refusal
count_of id b = seek b 0 (λ n p e. Ok n) Err (body_starts id b)

-- the header, once the whole body reads
unfoldable pub header_of_body : ℕ → List ℕ → Result (Option PositionV3Header) Refusal
header_of_body id b =
    seek b 0 (λ n p e. cond (eqb id 4) (read b 0 tables.header 0 (λ ts q. Ok (Some (header_of ts))) Err) (Ok None)) Err (body_starts id b)

-- a raw body, whole
abbrev pub raw_part : List ℕ → Part
raw_part b = record { start = 0; length = length b; count = length b }

-- the entry of a table at a bit place of a body
unfoldable pub typed_at : ℕ → List ℕ → ℕ → Result SatEntry Refusal
typed_at zero b p = read b 0 tables.position p (λ ts q. Ok (PositionV2 (satellite_of ts))) Err
typed_at (suc zero) b p = read b 0 tables.fragment p (λ ts q. Ok (CellFragment (fragment_of p ts))) Err
typed_at (suc (suc zero)) b p = read b 0 tables.association p (λ ts q. Ok (TimeAssociation (association_of ts))) Err
typed_at (suc (suc (suc zero))) b p = read b 0 tables.beamhopping p (λ ts q. Ok (BeamhoppingTimePlan (plan_of p ts))) Err
typed_at (suc (suc (suc (suc zero)))) b p = read b 0 tables.position3 p (λ ts q. Ok (PositionV3 (satellite_v3_of p ts))) Err
typed_at (suc (suc (suc (suc (suc n))))) b p = Ok (Raw (raw_part b))

-- the entry at an index, or none
abbrev pub some_entry : Result SatEntry Refusal → Result (Option SatEntry) Refusal
some_entry (Ok x) = Ok (Some x)
some_entry (Err f) = Err f

unfoldable pub entry_of : ℕ → List ℕ → ℕ → Result (Option SatEntry) Refusal
entry_of id b i = entry_in b i (λ p. some_entry (typed_at id b p)) (Ok None) Err (body_starts id b)
