-- What comes of the header, by the bits that are there.
-- Assumes nothing.
use Prim.Native.Nat.{ℕ, ◌*◌, ◌≤◌}
use mathlib.Core.Path.{◌≡◌, refl}
use mathlib.Core.List.{List, ◌∷◌}
use native.Mathlib.Omega.{arith}
use lib.ListN.{length}
use Rattle.format.specs.Digits.{value_at}
use Rattle.std.specs.Prelude.{Result, Ok, Err}
use Rattle.format.specs.At.{found_at}
use Rattle.format.specs.declared.Refusal.{Refusal}
use Rattle.format.specs.Tables.{header}
use Rattle.format.specs.ByName.{first_by}
use Rattle.format.specs.declared.Fault.TheVariants.{BodyEmpty, HeaderCut}
use Rattle.format.proofs.GroupLaws.{Line, plainly}
use Rattle.bit_reader.specs.Readers.{enough_at}
use Rattle.bit_reader.proofs.Reading as tests
use Rattle.passing.proofs.Passing.{stamp_lines, group, enough, passed_end}
use Rattle.position_v3.specs.PositionV3.{header_of, header_at}

abbrev header_lines : List Line
header_lines = plainly "oem_version_major" 4 ∷ plainly "oem_version_minor" 4 ∷ stamp_lines "creation_date"

module _ (b : List ℕ) where
  pub header_there : 64 ≤ 8 * length b
      → header_at b
      ≡ found_at
      (record {
        oem_version_major = value_at b 0 4;
        oem_version_minor = value_at b 4 4;
        creation_date_year = value_at b 8 8;
        creation_date_day = value_at b 23 9;
        creation_date_day_fraction = value_at b 32 32;
        creation_date_reserved_zero_future_use = value_at b 16 7;
      }) 64
  unfolding header_at header first_by
  header_there h =
      passed_end (enough BodyEmpty 1 (omega arith) (enough HeaderCut 64 (omega arith) (group {p = 0} header_lines h))) 0
      (λ ts q. found_at (header_of ts) q) Err

  -- refused by one of its tests
  module _ {x : Result (Unit {0}) Refusal} {f : Refusal} (e : x ≡ enough_at b 0 BodyEmpty 1) where
    pub header_empty : x ≡ Err f → Err f ≡ header_at b
    unfolding header_at header
    header_empty m = tests.short b 0 0 _ _ BodyEmpty 1 _ e m refl

    pub header_short : {y : Result (Unit {0}) Refusal} {t : Unit {0}} → x ≡ Ok t → y ≡ enough_at b 0 HeaderCut 64
        → y ≡ Err f → Err f ≡ header_at b
    unfolding header_at header
    header_short m g n = tests.enough b 0 0 _ _ BodyEmpty 1 _ e m (tests.short b 0 0 _ _ HeaderCut 64 _ g n refl)
