-- A fragment around its lists: with a centre, without one, and behind its id and flags.
-- Assumes nothing.
use Prim.Native.Nat.{ℕ, ◌+◌, ◌<◌}
use mathlib.Core.Path.{◌≡◌, refl, sym, ap, ◌∙◌}
use mathlib.Core.Bool.{Bool}
use mathlib.Core.List.{List, [], ◌∷◌, ◌++◌}
use native.Mathlib.Omega.{arith}
use lib.Dec.{eqb}
use Rattle.std.specs.Prelude.{Result, Ok, Err}
use Rattle.format.specs.Syntax.{unsigned, signed, Syntax, when, Field, num}
use Rattle.format.specs.Tables.{fragment, delivery, centre, u}
use Rattle.format.specs.ByName.{first_by, the, behind}
use Rattle.format.specs.At.{read, found_at}
use Rattle.format.specs.declared.Fault.TheVariants.{CentreCut}
use Rattle.format.specs.declared.Refusal.{Refusal}
use Rattle.format.specs.declared.Found.{Found}
use Rattle.format.proofs.GroupLaws.{Line, plainly, fields, stand, group}
use Rattle.bits.specs.Read.{read_at, Room}
use Rattle.bits.proofs.Answers.{got_all, got_lt}
use Rattle.bits.proofs.Reading.{got, sub, is, is_not, enough}
use Rattle.fragment.specs.Fragment.{centre_by, fragment_of, fragment_at}
use Rattle.fragment.specs.Inner.{lists_of, lists_at, around, around_at, with_front, without_front, with_at, without_at, centre_of}
use Rattle.fragment.specs.declared.CellCentre.{CellCentre}
use Rattle.fragment.specs.declared.CellFragment.{CellFragment}
use Rattle.fragment.specs.declared.Front.{Front}
use Rattle.fragment.specs.declared.Lists.{Lists}

module _ {y : Result (Found Lists) Refusal} (b : List ℕ) (f : Front) (p : ℕ) (z : y ≡ lists_at b p) where
  after : Result (Found Lists) Refusal → Result (Found CellFragment) Refusal
  after (Ok l) = found_at (around f l.value) l.next
  after (Err g) = Err g

  around_lists_lem : {x : Result (Found CellFragment) Refusal} → x ≡ after y → x ≡ around_at b f p
  unfolding lists_at around_at after
  around_lists_lem w =
      sub b 0 delivery p (λ ts q. found_at (around f (lists_of p ts)) q) Err (λ ts q. found_at (lists_of p ts) q) Err after
      (λ ts q. refl) (λ g. refl) z w

  pub around_got : {l : Found Lists} → y ≡ Ok l → found_at (around f l.value) l.next ≡ around_at b f p
  unfolding after
  around_got m = around_lists_lem (sym (ap after m))

  pub around_cut : {x : Result (Found CellFragment) Refusal} {g : Refusal} → y ≡ Err g → x ≡ Err g → x ≡ around_at b f p
  unfolding after
  around_cut m w = around_lists_lem (w ∙ sym (ap after m))

-- a centre's lines
abbrev lines : List Line
lines =
    plainly "centre.reserved_zero_future_use_4" 4 ∷ (signed, "centre_latitude", 18) ∷ plainly "centre.reserved_zero_future_use_5" 5
    ∷ (signed, "centre_longitude", 19) ∷ plainly "max_distance" 24 ∷ plainly "centre.reserved_zero_future_use_6" 6 ∷ []

module _ (b : List ℕ) (id : ℕ) (last : Bool) (p : ℕ) where
  abbrev with_found : List Field → ℕ → Result (Found CellFragment) Refusal
  with_found ts q = found_at (around (with_front id last (centre_by ts)) (lists_of p ts)) q

  pub with_lists : {x : Result (Found CellFragment) Refusal} {k : CellCentre} → Room b p 76 → k ≡ centre_of b p
      → x ≡ around_at b (with_front id last k) (p + 76) → x ≡ with_at b id last p
  unfolding with_at around_at lists_of first_by behind
  with_lists {x} {k} h c z =
      let e : p + 4 + 18 + 5 + 19 + 24 + 6 ≡ p + 76 = omega arith in
      enough b 0 p with_found Err CentreCut 76 (fields lines delivery) (omega (arith, h.fits))
      (group b 0 p lines delivery with_found Err h.fits
      (sub b 0 delivery (p + 76) (λ ts. with_found (stand b p 0 lines ++ ts)) Err
      (λ ts q. found_at (around (with_front id last k) (lists_of (p + 76) ts)) q) Err (λ y. y) (λ ts q. rw (e, c)) (λ f. refl) z refl))

  pub without_lists : {x : Result (Found CellFragment) Refusal} (n r : ℕ) → n ≡ p + 4
      → x ≡ around_at b (without_front id last r) n
      → x ≡ read b 0 delivery n (λ ts q. found_at (around (without_front id last r) (lists_of p (num unsigned "reserved_zero_future_use_4" 4 r ∷ ts))) q) Err
  unfolding around_at lists_of first_by behind
  without_lists n r h z =
      sub b 0 delivery n (λ ts q. found_at (around (without_front id last r) (lists_of p (num unsigned "reserved_zero_future_use_4" 4 r ∷ ts))) q) Err
      (λ ts q. found_at (around (without_front id last r) (lists_of n ts)) q) Err (λ y. y) (λ ts q. rw h) (λ f. refl) z refl

-- ---- behind the id and the flags

abbrev bare : Syntax
bare = u "reserved_zero_future_use_4" 4 delivery

module _ (b : List ℕ) (p : ℕ) (id first last : Found ℕ) where
  abbrev found : List Field → ℕ → Result (Found CellFragment) Refusal
  found ts n =
      found_at (fragment_of p (num unsigned "cell_fragment_id" 32 id.value ∷ num unsigned "first_occurrence" 1 first.value
      ∷ num unsigned "last_occurrence" 1 last.value ∷ ts)) n

  -- the id and the flags were read, and reading has come to the place behind them
  pub record Head : Type 0 where
    pub flag : first.value < 2
    pub place : last.next ≡ p + 32 + 1 + 1
    pub step : (x : Result (Found CellFragment) Refusal)
        → x ≡ read b 0 (when (eqb first.value 1) centre bare) last.next found Err → x ≡ fragment_at b p

  pub head : {r1 r2 r3 : Result (Found ℕ) Refusal} → r1 ≡ read_at b p 32 → r1 ≡ Ok id → r2 ≡ read_at b id.next 1
      → r2 ≡ Ok first
      → r3 ≡ read_at b first.next 1 → r3 ≡ Ok last → Head
  unfolding fragment_at fragment
  head e1 m1 e2 m2 e3 m3 =
      record {
        flag = got_lt b id.next 1 m2 e2;
        place = omega (arith, (got_all b p 32 e1 m1).next, (got_all b id.next 1 e2 m2).next, (got_all b first.next 1 e3 m3).next);
        step = λ x g.
            got b 0 p _ Err unsigned "cell_fragment_id" 32 _ e1 m1
            (got b 0 id.next _ Err unsigned "first_occurrence" 1 _ e2 m2 (got b 0 first.next _ Err unsigned "last_occurrence" 1 _ e3 m3 g));
      }

  -- the rest by the first flag
  pub fragment_with : {x : Result (Found CellFragment) Refusal} → Head → first.value ≡ 1
      → x ≡ with_at b id.value (eqb last.value 1) last.next → x ≡ fragment_at b p
  unfolding with_at fragment_of lists_of first_by behind
  fragment_with h o z =
      h.step _ (is b 0 last.next found Err centre bare o
      (sub b 0 centre last.next found Err (λ ts n. found_at (around (with_front id.value (eqb last.value 1) (centre_by ts)) (lists_of last.next ts)) n) Err (λ y. y)
      (λ ts n. rw (h.place, o)) (λ f. refl) z refl))

  pub fragment_without : {x : Result (Found CellFragment) Refusal} → Head → (first.value ≡ 1 → ⊥)
      → x ≡ without_at b id.value (eqb last.value 1) last.next
      → x ≡ fragment_at b p
  unfolding without_at fragment_of lists_of first_by behind
  fragment_without h o z =
      let none : first.value ≡ 0 = omega (arith, h.flag, o) in
      h.step _ (is_not b 0 last.next found Err centre bare o
      (sub b 0 bare last.next found Err
      (λ ts n. found_at (around (without_front id.value (eqb last.value 1) (the "reserved_zero_future_use_4" ts)) (lists_of last.next ts)) n) Err (λ y. y)
      (λ ts n. rw (h.place, none)) (λ f. refl) z refl))
