-- Table id 2: a time association from its fields, each by its name.
-- Assumes nothing: these are definitions.
use Rattle.std.specs.Prelude.{ℕ, ◌%◌, Bool, cond, List, eqb, Option, Some, None, Result, Err}
use Rattle.format.specs.Digits.{value_at}
use Rattle.format.specs.Syntax.{Name, Field}
use Rattle.format.specs.Tables.{association}
use Rattle.format.specs.ByName.{the}
use Rattle.format.specs.At.{read, found_at}
use Rattle.format.specs.declared.Refusal.{Refusal}
use Rattle.format.specs.declared.Found.{Found}
use Rattle.association.specs.declared.AssociationType.{AssociationType}
use Rattle.association.specs.declared.AssociationType.TheVariants.{UtcWithoutLeap, UtcWithLeap, Reserved}
use Rattle.association.specs.declared.LeapInfo.{LeapInfo}
use Rattle.association.specs.declared.TimeAssociationBody.{TimeAssociationBody}

-- the type of a number's 4 low bits, and the number of a type
unfoldable pub association_type_of : ℕ → AssociationType
association_type_of v = cond (eqb (v % 16) 0) UtcWithoutLeap (cond (eqb (v % 16) 1) UtcWithLeap (Reserved (v % 16)))

unfoldable pub type_number : AssociationType → ℕ
type_number UtcWithoutLeap = 0
type_number UtcWithLeap = 1
type_number (Reserved v) = v

-- whether a field is set, and the leap flags, which type 1 alone has
abbrev pub is_set : Name → List Field → Bool
is_set nm ts = eqb (the nm ts) 1

abbrev pub leap_of : List Field → Option LeapInfo
leap_of ts =
    cond (eqb (the "association_type" ts) 1)
    (Some (record { leap59 = is_set "leap59" ts; leap61 = is_set "leap61" ts; pastleap59 = is_set "pastleap59" ts; pastleap61 = is_set "pastleap61" ts }))
    None

-- an association from its fields; a field that is not there counts 0
unfoldable pub association_of : List Field → TimeAssociationBody
association_of ts =
    record {
      association_type = association_type_of (the "association_type" ts);
      leap_info = leap_of ts;
      ncr_base = the "ncr_base" ts;
      ncr_ext = the "ncr_ext" ts;
      association_timestamp_seconds = the "association_timestamp_seconds" ts;
      association_timestamp_nanoseconds = the "association_timestamp_nanoseconds" ts;
      reserved_zero_future_use_4 = the "reserved_zero_future_use_4" ts;
      ncr_reserved_zero_future_use = the "ncr_reserved_zero_future_use" ts;
    }

-- what reading a body finds
unfoldable pub association_at : List ℕ → Result (Found TimeAssociationBody) Refusal
association_at b = read b 0 association 0 (λ ts q. found_at (association_of ts) q) Err

-- the leap flags, or the reserved bits in their place, where they stand in a body
abbrev pub leap_at : List ℕ → ℕ → Option LeapInfo
leap_at b kind =
    cond (eqb kind 1)
    (Some (record {
      leap59 = eqb (value_at b 4 1) 1;
      leap61 = eqb (value_at b 5 1) 1;
      pastleap59 = eqb (value_at b 6 1) 1;
      pastleap61 = eqb (value_at b 7 1) 1;
    }))
    None

abbrev pub reserved_at : List ℕ → ℕ → ℕ
reserved_at b kind = cond (eqb kind 1) 0 (value_at b 4 4)
