-- What is made of a walk's answer.
-- Assumes nothing.
use Prim.Native.Nat.{ℕ, zero, suc, ◌*◌, ◌-◌}
use mathlib.Core.Path.{◌≡◌, refl, sym, ap, ◌∙◌}
use mathlib.Core.Bool.{Bool, true, false, cond}
use mathlib.Core.List.{List, [], ◌∷◌}
use lib.Dec.{leb}
use lib.ListN.{length}
use Rattle.std.specs.Prelude.{slice_get, Option, Some, None, Result, Ok, Err}
use Rattle.format.specs.Syntax.{Field, Parse, got, refused, and_then}
use Rattle.format.specs.Digits.{bits_of}
use Rattle.format.specs.Tables as tables
use Rattle.format.specs.Body.{read_body}
use Rattle.format.specs.Whole.{starts_as, body_starts}
use Rattle.format.specs.At.{seek}
use Rattle.format.specs.declared.Refusal.{Refusal}
use Rattle.format.specs.declared.Fault.TheVariants.{BodyTooLong}
use Rattle.entries.specs.Entries.{walked, Placed, Sure}
use Rattle.entries.specs.declared.Walk.{Walk}
use Rattle.sat.specs.Sat.{raw_part, typed_at}
use Rattle.sat.specs.SatBody.{typed_body}
use Rattle.sat.specs.declared.SatBody.TheVariants as raw
use Rattle.sat.specs.declared.SatEntry.TheVariants.{Raw}

module _ {A : Type 0} {x : A} (b : List ℕ) (i : ℕ) (found : ℕ → Option ℕ → ℕ → A) (fail : Refusal → A) (ps : Parse (List ℕ)) where
  -- a walk that came to the end, or was refused
  pub walked_on : {r : Result Walk Refusal} {w : Walk} → r ≡ seek b i walked Err ps → r ≡ Ok w → x ≡ found w.count w.place w.end → x ≡ seek b i found fail ps
  unfolding seek
  walked_on {r} {w} h m q = go ps (sym m ∙ h)
    where
      go : (y : Parse (List ℕ)) → Ok w ≡ seek b i walked Err y → x ≡ seek b i found fail y
      go (got ls rest) z =
          let y1 : w.count ≡ length ls = cc in
          let y2 : w.place ≡ slice_get ls i = cc in
          let y3 : w.end ≡ 8 * length b - length rest = cc in
          q ∙ ap (λ (a : ℕ). found a w.place w.end) y1 ∙ ap (λ (a : Option ℕ). found (length ls) a w.end) y2 ∙ ap (found (length ls) (slice_get ls i)) y3
      go (refused u v t) z = absurd cc

  pub walked_off : {r : Result Walk Refusal} {f : Refusal} → r ≡ seek b i walked Err ps → r ≡ Err f → x ≡ fail f → x ≡ seek b i found fail ps
  unfolding seek
  walked_off {r} {f} h m q = go ps (sym m ∙ h)
    where
      go : (y : Parse (List ℕ)) → Err f ≡ seek b i walked Err y → x ≡ seek b i found fail y
      go (got ls rest) z = absurd cc
      go (refused x1 x2 x3) z = q ∙ ap fail (let y : f ≡ _ = cc in y)

-- what holds of the place that was handed out
pub sure_of : {b : List ℕ} {q : ℕ} {r : Result Walk Refusal} {w : Walk} → r ≡ Ok w → Sure b q r → Placed b q w
sure_of m s = rw m at s.to

-- ids from 5 on: the body itself
pub raw_entry : (id : ℕ) (b : List ℕ) (p : ℕ) → (id ≡ 0 → ⊥) → (id ≡ 1 → ⊥) → (id ≡ 2 → ⊥) → (id ≡ 3 → ⊥) → (id ≡ 4 → ⊥) → Ok (Raw (raw_part b)) ≡ typed_at id b p
unfolding typed_at
raw_entry zero b p h0 h1 h2 h3 h4 = absurd (h0 refl)
raw_entry (suc zero) b p h0 h1 h2 h3 h4 = absurd (h1 refl)
raw_entry (suc (suc zero)) b p h0 h1 h2 h3 h4 = absurd (h2 refl)
raw_entry (suc (suc (suc zero))) b p h0 h1 h2 h3 h4 = absurd (h3 refl)
raw_entry (suc (suc (suc (suc zero)))) b p h0 h1 h2 h3 h4 = absurd (h4 refl)
raw_entry (suc (suc (suc (suc (suc n))))) b p h0 h1 h2 h3 h4 = refl

pub raw_body : (id : ℕ) (b : List ℕ) (n e : ℕ) → (id ≡ 0 → ⊥) → (id ≡ 1 → ⊥) → (id ≡ 2 → ⊥) → (id ≡ 3 → ⊥) → (id ≡ 4 → ⊥) → Ok (raw.Raw (raw_part b)) ≡ typed_body id b n e
unfolding typed_body
raw_body zero b n e h0 h1 h2 h3 h4 = absurd (h0 refl)
raw_body (suc zero) b n e h0 h1 h2 h3 h4 = absurd (h1 refl)
raw_body (suc (suc zero)) b n e h0 h1 h2 h3 h4 = absurd (h2 refl)
raw_body (suc (suc (suc zero))) b n e h0 h1 h2 h3 h4 = absurd (h3 refl)
raw_body (suc (suc (suc (suc zero)))) b n e h0 h1 h2 h3 h4 = absurd (h4 refl)
raw_body (suc (suc (suc (suc (suc i))))) b n e h0 h1 h2 h3 h4 = refl

-- the one entry under id 2 starts the body
pub first_place : {r : Result Walk Refusal} {w : Walk} {p : ℕ} (b : List ℕ) (i : ℕ) → r ≡ seek b i walked Err (body_starts 2 b) → r ≡ Ok w → w.place ≡ Some p → p ≡ 0
unfolding seek body_starts starts_as
first_place {r} {w} {p} b i h m k = go (leb (length b) 4096) (read_body (8 * length b) 0 tables.association (bits_of b)) i (sym m ∙ h)
  where
    go : (t : Bool) (x : Parse (List Field)) (j : ℕ) → Ok w ≡ seek b j walked Err (cond t (and_then x (λ ts rest. got (0 ∷ []) [])) (refused BodyTooLong (length b) 4096)) → p ≡ 0
    go true (got ts rest) zero z = let y : w.place ≡ Some 0 = cc in cc
    go true (got ts rest) (suc j) z = let y : w.place ≡ None = cc in absurd cc
    go true (refused u v t) j z = absurd cc
    go false x j z = absurd cc
