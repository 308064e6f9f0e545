-- Set bits of a list of bits and of a number, and those of so many bytes.
-- Assumes nothing.
use Prim.Native.Nat.{ℕ, zero, suc, ◌+◌, ◌-◌, ◌*◌, ◌/◌, ◌%◌, ◌^◌, ◌≤◌, ◌<◌}
use mathlib.Core.Path.{◌≡◌, refl, sym, ap, ◌∙◌, subst}
use mathlib.Core.List.{List, [], ◌∷◌, ◌++◌}
use native.Mathlib.Nat.{div-one, mod-one, mod-lt, div-le_self, lt_of_le_of_lt}
use native.Mathlib.Numerals.{one-add}
use native.Mathlib.Omega.{arith}
use lib.Count.{ones_cat, ones-le}
use lib.Count as count
use Rattle.std.specs.Prelude.{slice_range}
use Rattle.std.specs.List.{sum_by}
use Rattle.std.proofs.lemmas.List.{get_or-drop}
use Rattle.std.proofs.lemmas.List.Sums.{sum_by_more}
use lib.ListN.{length, take, drop, get_or, length-drop}
use lib.Pow.{mod-pow-add, pow_pos, shr_mod}
use lib.Seq.{take-add, drop-drop, drop-cons, take-append-le}
use Rattle.format.specs.Digits.{digits, bits_of}
use Rattle.format.specs.ByName.{ones}
use Rattle.format.proofs.DigitLaws.{length_digits}
use Rattle.bits.proofs.Groups.{take_digits, bits_drop}

ones_append : (a b : List ℕ) → ones (a ++ b) ≡ ones a + ones b
unfolding ones
ones_append [] b = omega arith
ones_append (x ∷ a) b = rw (ones_append a b) (omega arith)

ones_bit : (b : ℕ) → b < 2 → count.ones b ≡ b
unfolding lib.Count.ones lib.Count.ones_in
ones_bit zero h = refl
ones_bit (suc zero) h = refl
ones_bit (suc (suc b)) h = absurd (omega arith)

-- the set bits of a number's last k binary digits
ones_digits : (k v : ℕ) → ones (digits 2 k v) ≡ count.ones (v % 2 ^ k)
unfolding digits ones
ones_digits zero v = sym (ones_bit 0 (omega arith)) ∙ ap count.ones (sym (mod-one v))
ones_digits (suc k) v =
    let b : v / 2 ^ k % 2 < 2 = mod-lt (v / 2 ^ k) (omega arith) in
    let e : v % 2 ^ suc k ≡ v / 2 ^ k % 2 * 2 ^ k + v % 2 ^ k = ap (λ (n : ℕ). v % 2 ^ n) (sym (one-add k)) ∙ mod-pow-add v 1 k in
    rw (e, ones_cat k (v / 2 ^ k % 2) (v % 2 ^ k) (mod-lt v (pow_pos k)), ones_bit (v / 2 ^ k % 2) b, ones_digits k v)

-- the first n bits of the byte q
ones_byte : (s : List ℕ) (q n : ℕ) → q < length s → n ≤ 8
    → ones (take n (drop (8 * q) (bits_of s))) ≡ count.ones (get_or s q 0 / 2 ^ (8 - n) % 2 ^ n)
unfolding bits_of
ones_byte s q n h r =
    let b = get_or s q 0 in
    let e : n + (8 - n) ≡ 8 = omega arith in
    let t : take n (digits 2 8 b) ≡ digits 2 n (b / 2 ^ (8 - n)) =
    subst (λ (k : ℕ). take n (digits 2 k b) ≡ digits 2 n (b / 2 ^ (8 - n))) e (take_digits 2 n (8 - n) b) in
    let l : n ≤ length (digits 2 8 b) = rw (length_digits 2 8 b) r in
    rw (bits_drop q s, drop-cons s q 0 h, take-append-le n (digits 2 8 b) _ l, t) (ones_digits n (b / 2 ^ (8 - n)))

ones_more : (s : List ℕ) (at k n : ℕ) → ones (take (k + n) (drop at (bits_of s))) ≡ ones (take k (drop at (bits_of s))) + ones (take n (drop (at + k) (bits_of s)))
ones_more s at k n = rw (take-add k n (drop at (bits_of s)), ones_append, drop-drop k at (bits_of s))

-- n bits of the byte i behind start, the others shifted out
pub record Turn (s : List ℕ) (start i n : ℕ) : Type 0 where
  pub few : count.ones (get_or s (start + i) 0 / 2 ^ (8 - n)) ≤ 8
  pub next : ones (take (8 * i) (drop (8 * start) (bits_of s))) + count.ones (get_or s (start + i) 0 / 2 ^ (8 - n)) ≡ ones (take (8 * i + n) (drop (8 * start) (bits_of s)))

pub turn : (s : List ℕ) (start i n : ℕ) → start + i < length s → n ≤ 8 → get_or s (start + i) 0 < 256 → Turn s start i n
turn s start i n h r b =
    let x = get_or s (start + i) 0 in
    let so_far : ℕ = ones (take (8 * i) (drop (8 * start) (bits_of s))) in
    let e : n + (8 - n) ≡ 8 = omega arith in
    let m : x / 2 ^ (8 - n) % 2 ^ n ≡ x / 2 ^ (8 - n) = shr_mod n (8 - n) (subst (λ (k : ℕ). x < 2 ^ k) (sym e) b) in
    let q : x / 2 ^ (8 - n) < 256 = lt_of_le_of_lt (div-le_self x (2 ^ (8 - n))) b in
    let p : 8 * start + 8 * i ≡ 8 * (start + i) = omega arith in
    let step : ones (take n (drop (8 * start + 8 * i) (bits_of s))) ≡ count.ones (x / 2 ^ (8 - n)) =
    ap (λ (k : ℕ). ones (take n (drop k (bits_of s)))) p ∙ ones_byte s (start + i) n h r ∙ ap count.ones m in
    record { few = ones-le 8 (x / 2 ^ (8 - n)) q; next = sym (ones_more s (8 * start) (8 * i) n ∙ ap (λ (k : ℕ). so_far + k) step) }

-- the set bits of k bytes from start on, summed, are those of all their bits
record Counted (s : List ℕ) (start k : ℕ) : Type 0 where
  pub few : sum_by count.ones (take k (drop start s)) ≤ 8 * k
  pub total : sum_by count.ones (take k (drop start s)) ≡ ones (take (8 * k) (drop (8 * start) (bits_of s)))

counted : (s : List ℕ) (start k : ℕ) → start + k ≤ length s → ((i : ℕ) → get_or s i 0 < 256) → Counted s start k
unfolding ones
counted s start zero h b = record { few = omega arith; total = refl }
counted s start (suc k) h b = go (suc k) (omega arith) (counted s start k (omega arith) b)
  where
    go : (m : ℕ) → m ≡ k + 1 → Counted s start k → Counted s start m
    go m e so_far =
        let t = turn s start k 8 (omega arith) (omega arith) (b (start + k)) in
        let one : get_or s (start + k) 0 / 1 ≡ get_or s (start + k) 0 = div-one _ in
        let more : sum_by count.ones (take (k + 1) (drop start s)) ≡ sum_by count.ones (take k (drop start s)) + count.ones (get_or s (start + k) 0) =
        sum_by_more count.ones (drop start s) k 0 (omega (arith, length-drop start s))
        ∙ ap (λ (x : ℕ). sum_by count.ones (take k (drop start s)) + count.ones x) (get_or-drop start s k 0) in
        let y : 8 * (k + 1) ≡ 8 * k + 8 = omega arith in
        rw e (record { few = rw more (omega (arith, so_far.few, rw one at t.few)); total = more ∙ rw (so_far.total, y) (rw one at t.next) })

-- as the code has them: a part of the slice
pub record Summed (s : List ℕ) (start k : ℕ) : Type 0 where
  pub few : sum_by count.ones (slice_range s start (start + k)) ≤ 8 * k
  pub total : sum_by count.ones (slice_range s start (start + k)) ≡ ones (take (8 * k) (drop (8 * start) (bits_of s)))

pub summed : (s : List ℕ) (start k : ℕ) → start + k ≤ length s → ((i : ℕ) → get_or s i 0 < 256) → Summed s start k
summed s start k h b =
    let o = counted s start k h b in
    let e : start + k - start ≡ k = omega arith in
    record { few = rw e o.few; total = rw e o.total }
