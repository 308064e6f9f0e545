-- Bytes stored one behind the other.
-- Assumes nothing.
use Prim.Native.Nat.{ℕ, ◌+◌, ◌-◌, ◌≤◌, ◌<◌}
use mathlib.Core.Path.{◌≡◌, refl, sym, ap, ◌∙◌, subst}
use mathlib.Core.List.{List, [], ◌++◌}
use native.Mathlib.Omega.{arith}
use lib.ListN.{length, length-append}
use borrow.Rule.Slice.PartMut.{mid_of, put_mid, mid_len, same_len_mid}
use Rattle.format.specs.Digits.{digits, splice}
use Rattle.format.proofs.DigitLaws.{length_digits}
use Rattle.bits.proofs.Splices.{length_splice, splice_nil, splice_splice, part_splice}
use Rattle.runs.specs.Stored.{stored}
use Rattle.runs.proofs.Stores.{stored_fits, stored_length}
use Rattle.runs.specs.Appended.{AppendedAt}

-- bytes copied to the start of a part that was lent from their place on, or from the buffer's end where that is past it
pub append_part : (out xs part : List ℕ) (at start : ℕ) → start ≤ length out → (at ≤ length out → start ≡ at)
    → part ≡ stored (mid_of start (length out - start) out) 0 xs
    → AppendedAt xs at out (put_mid start (length out - start) out part) (at + length xs)
append_part out xs part at start h e q =
    let mid : List ℕ = mid_of start (length out - start) out in
    let n : length mid ≡ length out - start = mid_len start (length out) out (omega arith) in
    let k : length part ≡ length mid = ap length q ∙ stored_length mid 0 xs in
    record {
      size = refl;
      bytes = λ r.
          let z : start ≡ at = e (omega arith) in
          part_splice out part xs start h (q ∙ stored_fits mid 0 xs (omega arith)) ∙ ap (λ (p : ℕ). splice out p xs) z;
      long = same_len_mid start (length out - start) out part k;
    }

-- a number's two bytes, where there is room for them, and where there is not
pub pair_fits : (v at : ℕ) (out out' : List ℕ) → at + 2 ≤ length out → out' ≡ splice out at (digits 256 2 v)
    → AppendedAt (digits 256 2 v) at out out' (at + 2)
pair_fits v at out out' h q =
    let n : length (digits 256 2 v) ≡ 2 = length_digits 256 2 v in
    record {
      size = omega arith;
      bytes = λ _. q;
      long = ap length q ∙ length_splice out at (digits 256 2 v) (omega arith);
    }

pub pair_short : (v at : ℕ) (out : List ℕ) → length out < at + 2 → AppendedAt (digits 256 2 v) at out out (at + 2)
pair_short v at out h =
    let n : length (digits 256 2 v) ≡ 2 = length_digits 256 2 v in
    record { size = omega arith; bytes = λ r. absurd (omega arith); long = refl }

-- nothing
pub nothing_yet : {out : List ℕ} {at : ℕ} → AppendedAt [] at out out at
nothing_yet {out} {at} = record { size = omega arith; bytes = λ _. sym (splice_nil out at); long = refl }

-- two pieces, one behind the other
pub also : {xs ys out out₁ out₂ : List ℕ} {at m n : ℕ} → AppendedAt xs at out out₁ m → AppendedAt ys m out₁ out₂ n
    → AppendedAt (xs ++ ys) at out out₂ n
also {xs} {ys} {out} {out₁} {out₂} {at} {m} {n} x y =
    let k : length (xs ++ ys) ≡ length xs + length ys = length-append xs ys in
    let zx = x.size in
    let zy = y.size in
    let l = x.long in
    record {
      size = omega arith;
      bytes = λ r. y.bytes (omega arith) ∙ ap (λ (o : List ℕ). splice o m ys) (x.bytes (omega arith))
          ∙ splice_splice out at xs ys m x.size (omega arith);
      long = y.long ∙ x.long;
    }

-- the same bytes by another name
pub named : {xs ys out out' : List ℕ} {at n : ℕ} → xs ≡ ys → AppendedAt xs at out out' n → AppendedAt ys at out out' n
named {out = out} {out'} {at} {n} e x = subst (λ (z : List ℕ). AppendedAt z at out out' n) e x
