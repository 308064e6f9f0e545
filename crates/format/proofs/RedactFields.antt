-- S-31: what becomes of a satellite's fields without covariance: by a field's name, how much room they take, once is
-- enough, and all else is kept.
-- Assumes nothing.
use mathlib.Core.Path.{◌≡◌, refl, ap, ap₂, ◌∙◌}
use mathlib.Core.Bool.{Bool, true, false, cond, not, ◌||◌}
use mathlib.Core.List.{List, [], ◌∷◌, ◌++◌}
use Prim.Native.Nat.{ℕ, ◌+◌, ◌≤◌}
use native.Mathlib.Omega.{arith}
use lib.ListN.{length, length-append}
use Rattle.format.specs.Digits.{digits}
use Rattle.format.specs.Syntax.{Name, Field, num, flags, bytes, len, filler}
use Rattle.format.specs.declared.Edition.{Edition}
use Rattle.format.specs.ByName.{name}
use Rattle.format.specs.Body.{laid, kept}
use Rattle.format.specs.Ledger.{size, widened, ledger}
use Rattle.format.specs.Redact.{is_flag, is_part, zeroed, redact, others}
use Rattle.format.proofs.DigitLaws.{length_digits}
use Rattle.format.proofs.Good.{kept_append, ledger_append}

-- ---- a field, by its name

-- neither the flag nor the part
abbrev pub Ordinary : Name → Type 0
Ordinary nm = (is_part nm ≡ false) × (is_flag nm ≡ false)

-- what a field becomes, by what its name is
pub redact_by : (t : Field) (ts : List Field) (p q : Bool) → is_part (name t) ≡ p → is_flag (name t) ≡ q
    → redact (t ∷ ts) ≡ cond p (redact ts) (cond q (zeroed t) t ∷ redact ts)
unfolding redact
redact_by t ts p q e f = ap₂ (λ (a b : Bool). cond a (redact ts) (cond b (zeroed t) t ∷ redact ts)) e f

-- and whether it is one of the others
pub others_by : (t : Field) (ts : List Field) (p q : Bool) → is_part (name t) ≡ p → is_flag (name t) ≡ q
    → others (t ∷ ts) ≡ cond (not (p || q)) (t ∷ others ts) (others ts)
unfolding others
others_by t ts p q e f = ap₂ (λ (a b : Bool). cond (not (a || b)) (t ∷ others ts) (others ts)) e f

-- a field with the number 0 keeps its name
name_zeroed : (t : Field) → name (zeroed t) ≡ name t
name_zeroed (num g nm w v) = refl
name_zeroed (flags nm bs) = refl
name_zeroed (bytes nm bs) = refl
name_zeroed (len nm v) = refl
name_zeroed (filler fs) = refl

zeroed_part : (t : Field) (p : Bool) → is_part (name t) ≡ p → is_part (name (zeroed t)) ≡ p
zeroed_part t p e = ap is_part (name_zeroed t) ∙ e

zeroed_flag : (t : Field) (q : Bool) → is_flag (name t) ≡ q → is_flag (name (zeroed t)) ≡ q
zeroed_flag t q e = ap is_flag (name_zeroed t) ∙ e

-- ---- they take no more room, in a body or a ledger

module _ (f : List Field → List ℕ) (joins : (xs ys : List Field) → f (xs ++ ys) ≡ f xs ++ f ys)
    (same : (t : Field) → length (f (zeroed t ∷ [])) ≡ length (f (t ∷ []))) where
  front : (t : Field) (ts : List Field) → length (f (t ∷ ts)) ≡ length (f (t ∷ [])) + length (f ts)
  front t ts = ap length (joins (t ∷ []) ts) ∙ length-append (f (t ∷ [])) (f ts)

  shorter : (ts : List Field) → length (f (redact ts)) ≤ length (f ts)
  unfolding redact
  shorter [] = omega arith
  shorter (t ∷ ts) = go (is_part (name t)) (is_flag (name t)) (shorter ts)
    where
      go : (p q : Bool) → length (f (redact ts)) ≤ length (f ts)
          → length (f (cond p (redact ts) (cond q (zeroed t) t ∷ redact ts))) ≤ length (f (t ∷ ts))
      go true q h = omega (arith, front t ts)
      go false true h = omega (arith, front t ts, front (zeroed t) (redact ts), same t)
      go false false h = omega (arith, front t ts, front t (redact ts))

pub kept_shorter : (ts : List Field) → length (kept (redact ts)) ≤ length (kept ts)
unfolding laid
kept_shorter ts = shorter kept kept_append same ts
  where
    same : (t : Field) → length (kept (zeroed t ∷ [])) ≡ length (kept (t ∷ []))
    same (num g nm w v) =
        length-append (digits 2 w 0) []
        ∙ omega (arith, length_digits 2 w 0, length_digits 2 w v, length-append (digits 2 w v) [])
    same (flags nm bs) = refl
    same (bytes nm bs) = refl
    same (len nm v) = refl
    same (filler fs) = refl

pub ledger_shorter : (ed : Edition) (ts : List Field) → length (ledger ed (redact ts)) ≤ length (ledger ed ts)
unfolding ledger
ledger_shorter ed ts = shorter (ledger ed) (ledger_append ed) same ts
  where
    same : (t : Field) → length (ledger ed (zeroed t ∷ [])) ≡ length (ledger ed (t ∷ []))
    same (num g nm w v) =
        let a : List ℕ = digits 256 (size g w) (widened g w 0) in
        let b : List ℕ = digits 256 (size g w) (widened g w v) in
        length-append a []
        ∙ omega (
          arith,
          length_digits 256 (size g w) (widened g w 0),
          length_digits 256 (size g w) (widened g w v),
          length-append b [],
        )
    same (flags nm bs) = refl
    same (bytes nm bs) = refl
    same (len nm v) = refl
    same (filler fs) = refl

-- ---- once is enough, and all else is kept

pub redact_again : (ts : List Field) → redact (redact ts) ≡ redact ts
unfolding redact
redact_again [] = refl
redact_again (t ∷ ts) = go (is_part (name t)) (is_flag (name t)) refl refl (redact_again ts)
  where
    twice : (u : Field) → zeroed (zeroed u) ≡ zeroed u
    twice (num g nm w v) = refl
    twice (flags nm bs) = refl
    twice (bytes nm bs) = refl
    twice (len nm v) = refl
    twice (filler fs) = refl

    go : (p q : Bool) → is_part (name t) ≡ p → is_flag (name t) ≡ q → redact (redact ts) ≡ redact ts
        → redact (cond p (redact ts) (cond q (zeroed t) t ∷ redact ts))
        ≡ cond p (redact ts) (cond q (zeroed t) t ∷ redact ts)
    go true q e f h = h
    go false true e f h =
        redact_by (zeroed t) (redact ts) false true (zeroed_part t false e) (zeroed_flag t true f)
        ∙ ap₂ (λ (x : Field) (xs : List Field). x ∷ xs) (twice t) h
    go false false e f h = redact_by t (redact ts) false false e f ∙ ap (λ (xs : List Field). t ∷ xs) h

pub others_kept : (ts : List Field) → others (redact ts) ≡ others ts
unfolding redact others
others_kept [] = refl
others_kept (t ∷ ts) = go (is_part (name t)) (is_flag (name t)) refl refl (others_kept ts)
  where
    go : (p q : Bool) → is_part (name t) ≡ p → is_flag (name t) ≡ q → others (redact ts) ≡ others ts
        → others (cond p (redact ts) (cond q (zeroed t) t ∷ redact ts))
        ≡ cond (not (p || q)) (t ∷ others ts) (others ts)
    go true q e f h = h
    go false true e f h =
        others_by (zeroed t) (redact ts) false true (zeroed_part t false e) (zeroed_flag t true f) ∙ h
    go false false e f h = others_by t (redact ts) false false e f ∙ ap (λ (xs : List Field). t ∷ xs) h
