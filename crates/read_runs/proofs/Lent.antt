-- A step over a part `&mut out[from..]` that was lent from a byte on: what it says of the whole buffer.
-- Assumes nothing.
use Prim.Native.Nat.{ℕ, ◌+◌, ◌-◌, ◌*◌, ◌/◌, ◌%◌, ◌≤◌}
use mathlib.Core.Path.{◌≡◌, sym, ap, ◌∙◌}
use mathlib.Core.List.{List, append-nil}
use native.Mathlib.Nat.{zero-add}
use native.Mathlib.Omega.{arith}
use lib.ListN.{length, take, drop}
use lib.Seq.{drop-length}
use borrow.Rule.Slice.PartMut.{mid_of, put_mid, mid_len, same_len_mid}
use Rattle.format.specs.Digits.{bits_of, splice}
use Rattle.format.specs.Syntax.{Syntax}
use Rattle.format.specs.Body.{laid}
use Rattle.format.proofs.DigitLaws.{length_bits}
use Rattle.bits.proofs.Splices.{part_splice, splice_in}
use Rattle.bits.proofs.Groups.{bits_take, bits_drop, bits_splice}
use Rattle.read_runs.specs.Came.{Way, Came}

-- what fills a part is all of it
fills : (l xs : List ℕ) → length xs ≡ length l → xs ≡ splice l 0 xs
unfolding splice
fills l xs n = sym (rw (zero-add (length xs), n, drop-length l) (append-nil xs))

-- the part starts at the byte of the bit place, or at the buffer's end where that is past it
abbrev pub Starts : ℕ → ℕ → List ℕ → Type 0
Starts from here out = (from ≤ length out) × (here / 8 ≤ length out → from ≡ here / 8)

module _ (out : List ℕ) (from here : ℕ) (h : Starts from here out) (a : here % 8 ≡ 0) where
  pub lent_bits : (part xs : List ℕ) (size : ℕ) → length xs ≡ size → length part ≡ length (mid_of from (length out - from) out)
      → (size ≤ 8 * length (mid_of from (length out - from) out) → bits_of part ≡ splice (bits_of (mid_of from (length out - from) out)) 0 xs)
      → here + size ≤ 8 * length out → bits_of (put_mid from (length out - from) out part) ≡ splice (bits_of out) here xs
  lent_bits part xs size n k e r =
      let rest = length out - from in
      let mid = mid_of from rest out in
      let z : from ≡ here / 8 = h.1 (omega arith) in
      let p : 8 * from + 0 ≡ here = omega arith in
      let m : length mid ≡ rest = mid_len from (length out) out (omega arith) in
      let b : bits_of mid ≡ take (8 * rest) (drop (8 * from) (bits_of out)) = sym (rw (bits_drop from out) (bits_take rest (drop from out))) in
      ap bits_of (part_splice out part part from h.0 (fills mid part k)) ∙ bits_splice out from part
      ∙ ap (splice (bits_of out) (8 * from)) (e (omega arith) ∙ ap (λ (y : List ℕ). splice y 0 xs) b)
      ∙ splice_in (bits_of out) xs (8 * from) 0 (8 * rest) (omega arith) (omega (arith, length_bits out))
      ∙ ap (λ (y : ℕ). splice (bits_of out) y xs) p

  pub lent : {way : Way} {l part : List ℕ} {s s' : Syntax} {place p size : ℕ} → Came way l s place 0 (mid_of from (length out - from) out) s' p size part
      → Came way l s place here out s' p (here + size) (put_mid from (length out - from) out part)
  lent {way} {part = part} {size = size} w =
      record {
        ts = w.ts;
        reads = w.reads;
        joins = w.joins;
        size = omega (arith, w.size);
        bits = lent_bits part (laid way.edition w.ts) size (omega (arith, w.size)) w.long w.bits;
        long = same_len_mid from (length out - from) out part w.long;
        within = w.within;
        slack = omega (arith, w.slack);
      }
