-- A reading that has come to a place: what the rest of the description gives there, the whole gives from its start.
-- Assumes nothing.
use Prim.Native.Nat.{ℕ, ◌+◌, ◌*◌}
use mathlib.Core.Path.{◌≡◌, refl}
use mathlib.Core.List.{List, [], ◌∷◌}
use Rattle.std.specs.Prelude.{Result, Ok, Err}
use Rattle.format.specs.Syntax.{Name, Sign, Syntax, end, field, need, plan, Field, num}
use Rattle.format.specs.Tables.{clock}
use Rattle.format.specs.At.{read}
use Rattle.format.specs.declared.Fault.{Fault}
use Rattle.format.specs.declared.Refusal.{Refusal}
use Rattle.format.specs.declared.Found.{Found}
use Rattle.format.proofs.ReadLaws.{upto}
use Rattle.bits.specs.Read.{read_at, Place}
use Rattle.bits.proofs.Answers.{next_place}
use Rattle.bits.proofs.Reading as reading
use Rattle.bit_reader.specs.Readers.{enough_at}
use Rattle.bit_reader.proofs.Reading as groups
use Rattle.clocks.specs.Clocks.{clock_at}
use Rattle.clocks.specs.declared.Clock.{Clock}
use Rattle.clocks.proofs.Clocks.{put, clock_place, got_clock, cut_clock}

-- y: what the whole gives; s: what comes next, at q; found, fail: what is made of the rest
pub record Reached {A : Type 0} (b : List ℕ) (e : ℕ) (y : A) (s : Syntax) (q : ℕ) (found : List Field → ℕ → A)
    (fail : Refusal → A) : Type 0 where
  pub place : Place b q
  pub past : (x : A) → x ≡ read b e s q found fail → x ≡ y

module _ {A : Type 0} {b : List ℕ} {e : ℕ} where
  pub start : (s : Syntax) (q : ℕ) (found : List Field → ℕ → A) (fail : Refusal → A) → Place b q
      → Reached b e (read b e s q found fail) s q found fail
  start s q found fail l = record { place = l; past = λ x h. h }

  module _ {y : A} {q : ℕ} {found : List Field → ℕ → A} {fail : Refusal → A} where
    -- a group that `enough` found to be there, or not
    module _ {a : Fault} {w : ℕ} {s : Syntax} {r : Result (Unit {0}) Refusal}
        (t : Reached b e y (need a w s) q found fail) (h : r ≡ enough_at b q a w) where
      pub tested : {o : Unit {0}} → r ≡ Ok o → Reached b e y s q found fail
      tested m = record { place = t.place; past = λ x g. t.past x (groups.enough b e q found fail a w s h m g) }

      pub untested : {f : Refusal} → r ≡ Err f → fail f ≡ y
      untested m = t.past _ (groups.short b e q found fail a w s h m refl)

    -- a number that `read_u` read, or refused
    module _ {g : Sign} {nm : Name} {w : ℕ} {k : ℕ → Syntax} {r : Result (Found ℕ) Refusal}
        (t : Reached b e y (field g nm w k) q found fail)
        (h : r ≡ read_at b q w) where
      pub number : {x : Found ℕ} → r ≡ Ok x
          → Reached b e y (k x.value) x.next (λ ts. found (num g nm w x.value ∷ ts)) fail
      number m = record {
        place = next_place q w m h t.place.short;
        past =
            λ z u. t.past z (reading.got b e q found fail g nm w k h m u);
      }

      pub no_number : {f : Refusal} → r ≡ Err f → fail f ≡ y
      no_number m = t.past _ (reading.cut b e q found fail g nm w k t.place h m refl)

    -- a plan's length, likewise; the fields behind it are held to the plan's end
    module _ {nm : Name} {k : Syntax} {r : Result (Found ℕ) Refusal} (t : Reached b e y (plan nm k) q found fail)
        (h : r ≡ read_at b q 12) where
      pub planned : {x : Found ℕ} → r ≡ Ok x
          → let end = x.next + 8 * x.value in Reached b end y k x.next (upto b nm x.value end found fail) fail
      planned m = record {
        place = next_place q 12 m h t.place.short;
        past =
            λ z u. t.past z (reading.got_plan b e q found fail nm k h m u);
      }

      pub no_plan : {f : Refusal} → r ≡ Err f → fail f ≡ y
      no_plan m = t.past _ (reading.cut_plan b e q found fail nm k t.place h m refl)

    -- a clock that was read, or refused
    module _ {s : Syntax} {r : Result (Found Clock) Refusal} (c : Name) (t : Reached b e y (clock c s) q found fail)
        (h : r ≡ clock_at b q) where
      pub clocked : {x : Found Clock} → r ≡ Ok x → Reached b e y s x.next (λ ts. found (put c x.value ts)) fail
      clocked m = record {
        place = clock_place q m h t.place;
        past =
            λ z u. t.past z (got_clock b e q found fail c s h m t.place u);
      }

      pub no_clock : {f : Refusal} → r ≡ Err f → fail f ≡ y
      no_clock m = t.past _ (cut_clock b e q found fail c s h m t.place refl)

    pub over : Reached b e y end q found fail → found [] q ≡ y
    over t = t.past _ (reading.over b e q found fail t.place refl)
