-- An association whose bits are all there, by the case of its clock; the tests in front of it; and a type's number.
-- Assumes nothing.
use Prim.Native.Nat.{ℕ, ◌*◌, ◌%◌, ◌≤◌}
use mathlib.Core.Path.{◌≡◌, refl, sym, ◌∙◌}
use mathlib.Core.Bool.{Bool, true, false, cond}
use mathlib.Core.List.{List, [], ◌∷◌, ◌++◌}
use native.Mathlib.Omega.{arith}
use lib.Dec.{eqb}
use lib.ListN.{length}
use borrow.Author.Tests.{eqb-true}
use Rattle.std.specs.Prelude.{Option, Some, Result, Ok, Err}
use Rattle.format.specs.Digits.{value_at}
use Rattle.format.specs.Syntax.{Syntax, end, unsigned, Field, num, when, need}
use Rattle.format.specs.Tables.{association, time, leap, bits, u}
use Rattle.format.specs.ByName.{first_by}
use Rattle.format.specs.At.{read, found_at}
use Rattle.format.specs.declared.Refusal.{Refusal}
use Rattle.format.specs.declared.Found.{Found}
use Rattle.format.specs.declared.Fault.TheVariants.{BodyEmpty, AssociationCut}
use Rattle.format.proofs.ReadLaws as laws
use Rattle.format.proofs.GroupLaws.{Line, plainly, fields, stand, group_from, one_from}
use Rattle.bits.specs.Read.{Place, Room}
use Rattle.bit_reader.specs.Readers.{enough_at}
use Rattle.bit_reader.proofs.Reading.{enough, short}
use Rattle.bits.proofs.Tests.{equal}
use Rattle.clocks.specs.Clocks.{clock_at}
use Rattle.clocks.specs.declared.Clock.{Clock}
use Rattle.clocks.proofs.Clocks.{put, told, got_clock, cut_clock}
use Rattle.association.specs.Association.{association_type_of, type_number, association_of, association_at, leap_at, reserved_at}
use Rattle.association.specs.declared.LeapInfo.{LeapInfo}
use Rattle.association.specs.declared.AssociationType.{AssociationType}
use Rattle.association.specs.declared.AssociationType.TheVariants.{UtcWithoutLeap, UtcWithLeap, Reserved}
use Rattle.association.specs.declared.TimeAssociationBody.{TimeAssociationBody}

-- a number through its type is its 4 low bits
pub type_number_lem : (v : ℕ) → type_number (association_type_of v) ≡ v % 16
unfolding type_number association_type_of
type_number_lem v = first (eqb (v % 16) 0) refl
  where
    second : (t : Bool) → eqb (v % 16) 1 ≡ t → type_number (cond t UtcWithLeap (Reserved (v % 16))) ≡ v % 16
    second true e = sym (eqb-true (v % 16) 1 e)
    second false e = refl

    first : (t : Bool) → eqb (v % 16) 0 ≡ t → type_number (cond t UtcWithoutLeap (cond (eqb (v % 16) 1) UtcWithLeap (Reserved (v % 16)))) ≡ v % 16
    first true e = sym (eqb-true (v % 16) 0 e)
    first false e = second (eqb (v % 16) 1) refl

module _ (b : List ℕ) where
  abbrev kind : ℕ
  kind = value_at b 0 4

  -- the association by places; k: its clock
  abbrev placed : Clock → TimeAssociationBody
  placed k =
      record {
        association_type = association_type_of kind;
        leap_info = leap_at b kind;
        ncr_base = k.base;
        ncr_ext = k.ext;
        association_timestamp_seconds = value_at b 56 64;
        association_timestamp_nanoseconds = value_at b 120 32;
        reserved_zero_future_use_4 = reserved_at b kind;
        ncr_reserved_zero_future_use = k.reserved;
      }

  -- the lines behind the tests, and what is made of the fields
  abbrev branch : ℕ → Syntax
  branch t = when (eqb t 1) (leap time) (u "reserved_zero_future_use_4" 4 time)

  abbrev tail : Syntax
  tail = bits "association_type" 4 branch

  abbrev ok : List Field → ℕ → Result (Found TimeAssociationBody) Refusal
  ok ts q = found_at (association_of ts) q

  -- the two tests: no bit is there, and fewer than 152
  pub none_there : {r : Result (Unit {0}) Refusal} {f : Refusal} → r ≡ enough_at b 0 BodyEmpty 1 → r ≡ Err f → Err f ≡ association_at b
  unfolding association_at association
  none_there e m = short b 0 0 ok Err BodyEmpty 1 (need AssociationCut 152 tail) e m refl

  pub too_few : {r q : Result (Unit {0}) Refusal} {t : Unit {0}} {f : Refusal} → r ≡ enough_at b 0 BodyEmpty 1 → r ≡ Ok t
      → q ≡ enough_at b 0 AssociationCut 152 → q ≡ Err f → Err f ≡ association_at b
  unfolding association_at association
  too_few e m g n = enough b 0 0 ok Err BodyEmpty 1 (need AssociationCut 152 tail) e m (short b 0 0 ok Err AssociationCut 152 tail g n refl)

  -- the leap flags of type 1, from their numbers
  pub leaps_of : {k x59 x61 y59 y61 : ℕ} → k ≡ 1 → x59 ≡ value_at b 4 1 → x61 ≡ value_at b 5 1 → y59 ≡ value_at b 6 1 → y61 ≡ value_at b 7 1
      → Some (record { leap59 = eqb x59 1; leap61 = eqb x61 1; pastleap59 = eqb y59 1; pastleap61 = eqb y61 1 }) ≡ leap_at b k
  leaps_of h p q r s =
      equal _ _ h (λ i. Some (record { leap59 = eqb (p i) 1; leap61 = eqb (q i) 1; pastleap59 = eqb (r i) 1; pastleap61 = eqb (s i) 1 }))

  -- the lines in front of the clock, and behind it
  abbrev leaps : List Line
  leaps = plainly "leap59" 1 ∷ plainly "leap61" 1 ∷ plainly "pastleap59" 1 ∷ plainly "pastleap61" 1 ∷ []

  abbrev others : List Line
  others = plainly "reserved_zero_future_use_4" 4 ∷ []

  abbrev stamps : List Line
  stamps = plainly "association_timestamp_seconds" 64 ∷ plainly "association_timestamp_nanoseconds" 32 ∷ []

  -- the fields in front of the clock; t: whether the type has leap flags
  abbrev front : Bool → List Field
  front t = num unsigned "association_type" 4 kind ∷ cond t (stand b 0 4 leaps) (stand b 0 4 others)

  -- what is made of the fields from the clock on
  abbrev from_clock : List Field → ℕ → Result (Found TimeAssociationBody) Refusal
  from_clock ts q = ok (front (eqb kind 1) ++ ts) q

  -- the reading goes as far as the clock
  to_clock : 152 ≤ 8 * length b → association_at b ≡ read b 0 time 8 from_clock Err
  unfolding association_at association
  to_clock h = head ∙ go (eqb kind 1) refl
    where
      f : List Field → ℕ → Result (Found TimeAssociationBody) Refusal
      f ts q = ok (num unsigned "association_type" 4 kind ∷ ts) q

      head : association_at b ≡ read b 0 (branch kind) 4 f Err
      head =
          laws.need_at b 0 0 ok Err BodyEmpty 1 (need AssociationCut 152 tail) (omega arith)
          ∙ laws.need_at b 0 0 ok Err AssociationCut 152 tail (omega arith)
          ∙ one_from b 0 0 0 unsigned "association_type" 4 branch ok Err (omega arith)

      go : (t : Bool) → eqb kind 1 ≡ t → read b 0 (branch kind) 4 f Err ≡ read b 0 time 8 (λ ts. ok (front t ++ ts)) Err
      go true e =
          laws.when_yes b 0 4 f Err (eqb kind 1) (leap time) (u "reserved_zero_future_use_4" 4 time) e
          ∙ group_from b 0 0 4 leaps time f Err (omega arith)
      go false e =
          laws.when_no b 0 4 f Err (eqb kind 1) (leap time) (u "reserved_zero_future_use_4" 4 time) e
          ∙ group_from b 0 0 4 others time f Err (omega arith)

  -- the clock's place
  at_clock : Room b 0 152 → Place b 8
  at_clock l = record { short = l.short; within = omega arith }

  -- a clock that is refused, and one that is read
  pub clock_refused : {c : Result (Found Clock) Refusal} {g : Refusal} → Room b 0 152 → c ≡ clock_at b 8 → c ≡ Err g → Err g ≡ association_at b
  clock_refused l e m = cut_clock b 0 8 from_clock Err "ncr" _ e m (at_clock l) refl ∙ sym (to_clock l.fits)

  clock_there : {c : Result (Found Clock) Refusal} {k : Found Clock} → Room b 0 152 → c ≡ clock_at b 8 → c ≡ Ok k → found_at (placed k.value) 152 ≡ association_at b
  unfolding association_of first_by
  clock_there {c} {k} l e m = got_clock b 0 8 from_clock Err "ncr" _ e m (at_clock l) (rw (told b 8 (at_clock l) e m).next behind) ∙ sym (to_clock l.fits)
    where
      f : List Field → ℕ → Result (Found TimeAssociationBody) Refusal
      f ts q = from_clock (put "ncr" k.value ts) q

      go : (t : Bool) → eqb kind 1 ≡ t → found_at (placed k.value) 152 ≡ ok (front (eqb kind 1) ++ put "ncr" k.value (stand b 0 56 stamps)) 152
      go true h = rw h
      go false h = rw h

      behind : found_at (placed k.value) 152 ≡ read b 0 (fields stamps end) 56 f Err
      behind =
          go (eqb kind 1) refl
          ∙ sym (group_from b 0 0 56 stamps end f Err l.fits ∙ laws.end_at b 0 152 (λ ts. f (stand b 0 56 stamps ++ ts)) Err l.fits)

  -- the same of the parts that the code reads
  pub all_read : {j sec ns r4 : ℕ} {t : AssociationType} {l : Option LeapInfo} {c : Result (Found Clock) Refusal} {ncr : Found Clock}
      → Room b 0 152 → c ≡ clock_at b 8 → c ≡ Ok ncr
      → j ≡ kind → t ≡ association_type_of j → l ≡ leap_at b j → sec ≡ value_at b 56 64 → ns ≡ value_at b 120 32 → r4 ≡ reserved_at b j
      → found_at (record {
        association_type = t;
        leap_info = l;
        ncr_base = ncr.value.base;
        ncr_ext = ncr.value.ext;
        association_timestamp_seconds = sec;
        association_timestamp_nanoseconds = ns;
        reserved_zero_future_use_4 = r4;
        ncr_reserved_zero_future_use = ncr.value.reserved;
      }) 152 ≡ association_at b
  all_read h e m p1 p2 p3 p4 p5 p6 = rw (p2, p3, p6, p4, p5, p1) (clock_there h e m)
