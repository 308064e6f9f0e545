-- A copy, element by element.
-- Assumes nothing.
use Prim.Native.Nat.{ℕ, ◌+◌, ◌≤◌, ◌<◌}
use mathlib.Core.Path.{◌≡◌, sym, ap, ◌∙◌}
use mathlib.Core.List.{List, [], ◌∷◌, ◌++◌}
use native.Mathlib.Numerals.{add-one}
use native.Mathlib.Omega.{arith}
use lib.ListN.{length, take, get_or, set}
use lib.Seq.{take-suc, take_all, length-take-le}
use Rattle.format.specs.Digits.{splice}
use Rattle.bits.proofs.Splices.{length_splice, splice_nil, splice_splice, set_one}
use Rattle.runs.specs.Stored.{stored}
use Rattle.runs.proofs.Stores.{stored_fits}

-- the first i elements are copied
pub record Copying (l out₀ : List ℕ) (i : ℕ) (out : List ℕ) : Type 0 where
  pub within : i ≤ length l
  pub list : out ≡ splice out₀ 0 (take i l)
  pub long : length out ≡ length out₀

pub copy_none : (l out : List ℕ) → Copying l out 0 out
copy_none l out = record { within = omega arith; list = sym (splice_nil out 0); long = omega arith }

pub copy_next : {l out₀ out : List ℕ} {i : ℕ} → Copying l out₀ i out → i < length l → length l ≤ length out₀ → Copying l out₀ (i + 1) (set out i (get_or l i 0))
copy_next {l} {out₀} {out} {i} c h m =
    let x : ℕ = get_or l i 0 in
    let lt : length (take i l) ≡ i = length-take-le i l c.within in
    let next : take (i + 1) l ≡ take i l ++ x ∷ [] = rw add-one (take-suc l i 0 h) in
    let list : set out i x ≡ splice out₀ 0 (take (i + 1) l) =
    set_one out i x (omega (arith, c.long)) ∙ ap (λ (m : List ℕ). splice m i (x ∷ [])) c.list
    ∙ splice_splice out₀ 0 (take i l) (x ∷ []) i (omega arith) (omega arith) ∙ ap (splice out₀ 0) (sym next) in
    record {
      within = omega arith;
      list = list;
      long = ap length list ∙ length_splice out₀ 0 (take (i + 1) l) (omega (arith, length-take-le (i + 1) l (omega arith)));
    }

pub copy_all : {l out₀ out : List ℕ} {i : ℕ} → Copying l out₀ i out → length l ≤ i → length l ≤ length out₀ → out ≡ stored out₀ 0 l
copy_all {l} {out₀} {i = i} c h m = c.list ∙ ap (splice out₀ 0) (take_all i l h) ∙ sym (stored_fits out₀ 0 l (omega arith))
