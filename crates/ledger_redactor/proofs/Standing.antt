-- A satellite that stands at a place of a ledger: where its covariance starts and ends, and what the copy keeps.
-- Assumes nothing.
use Prim.Native.Nat.{ℕ, ◌+◌, ◌-◌, ◌*◌, ◌≤◌}
use mathlib.Core.Path.{◌≡◌, refl, sym, ap, ap₂, ◌∙◌}
use mathlib.Core.List.{List, [], ◌∷◌, ◌++◌, append_assoc}
use native.Mathlib.Omega.{arith}
use lib.ListN.{length, take, drop, get_or, length-append, length-drop}
use lib.Seq.{get_or-drop, get_or-append-add, take_at, drop_at, drop-drop}
use Rattle.format.specs.Digits.{digits, value}
use Rattle.format.proofs.DigitLaws.{length_digits, value_digits}
use Rattle.runs.specs.declared.Flags.{Flags}
use Rattle.ledger_redactor.specs.Places.{flags_at, metadata_size, entry_size, covariance_size, count_at, covariance_at, behind_at, copy_to}
use Rattle.ledger_redactor.proofs.Parts.{flags_of}
use Rattle.ledger_redactor.proofs.Satellites.{Satellite}

-- a byte behind a front of k bytes
at_front : (l front ys : List ℕ) (at k j : ℕ) → drop at l ≡ front ++ ys → length front ≡ k
    → get_or l (at + (k + j)) 0 ≡ get_or ys j 0
at_front l front ys at k j e h =
    sym (get_or-drop at l (k + j) 0) ∙ ap (λ (x : List ℕ). get_or x (k + j) 0) e
    ∙ ap (λ (n : ℕ). get_or (front ++ ys) (n + j) 0) (sym h) ∙ get_or-append-add front ys j 0

-- bytes behind such a front
behind_front : (l front ys : List ℕ) (at k : ℕ) → drop at l ≡ front ++ ys → length front ≡ k → drop (at + k) l ≡ ys
behind_front l front ys at k e h = sym (drop-drop k at l) ∙ ap (drop k) e ∙ drop_at front ys k h

pub record Stands (l : List ℕ) (at : ℕ) (bs keeps : List ℕ) : Type 0 where
  pub start : covariance_at l at ≡ at + length keeps
  pub behind : behind_at l at ≡ at + length bs
  pub copy : copy_to l at (at + length keeps) ≡ keeps
  pub ten : 10 ≤ length keeps
  pub shorter : length keeps ≤ length bs
  pub within : at + length bs ≤ length l

module _ (l : List ℕ) (at : ℕ) (bs keeps more : List ℕ) (e : drop at l ≡ bs ++ more) (x : Satellite bs keeps) where
  abbrev tail : List ℕ
  tail = x.about ++ (digits 256 2 x.count ++ (x.each ++ x.part))

  abbrev flag_bytes : List ℕ
  flag_bytes = x.meta ∷ x.start ∷ x.stop ∷ x.accel ∷ x.cov ∷ []

  abbrev its_flags : Flags
  its_flags = flags_of x.meta x.start x.stop x.accel x.cov

  in_front : drop at l ≡ x.front ++ (flag_bytes ++ (tail ++ more))
  in_front = e ∙ ap (λ (y : List ℕ). y ++ more) x.is ∙ append_assoc x.front (flag_bytes ++ tail) more

  flag : (j : ℕ) → get_or l (at + (5 + j)) 0 ≡ get_or (flag_bytes ++ (tail ++ more)) j 0
  flag j = at_front l x.front (flag_bytes ++ (tail ++ more)) at 5 j in_front x.five

  flags_are : flags_at l at ≡ its_flags
  flags_are = rw (flag 0, flag 1, flag 2, flag 3, flag 4) refl

  -- the flags, and what stands behind them
  ten_bytes : List ℕ
  ten_bytes = x.front ++ flag_bytes

  in_ten : drop at l ≡ ten_bytes ++ (tail ++ more)
  unfolding ten_bytes
  in_ten = in_front ∙ sym (append_assoc x.front flag_bytes (tail ++ more))

  ten_long : length ten_bytes ≡ 10
  unfolding ten_bytes
  ten_long = length-append x.front flag_bytes ∙ omega (arith, x.five)

  behind_ten : drop (at + 10) l ≡ tail ++ more
  behind_ten = behind_front l ten_bytes (tail ++ more) at 10 in_ten ten_long

  count_is : count_at l at ≡ at + 10 + length x.about
  unfolding count_at
  count_is = ap (λ (f : Flags). at + 10 + metadata_size f) flags_are ∙ ap (λ (k : ℕ). at + 10 + k) (sym x.about_size)

  -- the count is read there
  counted : value 256 (take 2 (drop (count_at l at) l)) ≡ x.count
  counted =
      let d : List ℕ = digits 256 2 x.count in
      let r : List ℕ = x.each ++ x.part in
      let a : drop (at + 10) l ≡ x.about ++ ((d ++ r) ++ more) = behind_ten ∙ append_assoc x.about (d ++ r) more in
      let b : drop (at + 10 + length x.about) l ≡ d ++ (r ++ more) = behind_front l x.about ((d ++ r) ++ more)
      (at + 10) (length x.about) a refl ∙ append_assoc d r more in
      ap (λ (k : ℕ). value 256 (take 2 (drop k l))) count_is ∙ ap (λ (y : List ℕ). value 256 (take 2 y)) b
      ∙ ap (value 256) (take_at d (r ++ more) 2 (length_digits 256 2 x.count))
      ∙ value_digits 256 2 x.count (omega arith) (omega (arith, x.few))

  kept_long : length keeps ≡ 12 + length x.about + length x.each
  kept_long =
      let d : List ℕ = digits 256 2 x.count in
      ap length x.keeps_is
      ∙ length-append x.front (x.meta ∷ x.start ∷ x.stop ∷ x.accel ∷ 0 ∷ (x.about ++ (d ++ x.each)))
      ∙ omega (arith, x.five, length-append x.about (d ++ x.each), length-append d x.each, length_digits 256 2 x.count)

  long : length bs ≡ length keeps + length x.part
  long =
      let d : List ℕ = digits 256 2 x.count in
      ap length x.is ∙ length-append x.front (flag_bytes ++ tail)
      ∙ omega (
        arith,
        kept_long,
        x.five,
        length-append x.about (d ++ (x.each ++ x.part)),
        length-append d (x.each ++ x.part),
        length-append x.each x.part,
        length_digits 256 2 x.count,
      )

  starts : covariance_at l at ≡ at + length keeps
  unfolding covariance_at
  starts =
      let w : value 256 (take 2 (drop (count_at l at) l)) * entry_size (flags_at l at).acceleration ≡ length x.each =
      ap₂ (λ (n : ℕ) (f : Flags). n * entry_size f.acceleration) counted flags_are ∙ sym x.each_size in
      omega (arith, w, count_is, kept_long)

  ends : behind_at l at ≡ at + length bs
  unfolding behind_at
  ends =
      let w : covariance_size (flags_at l at).covariance ≡ length x.part =
      ap (λ (f : Flags). covariance_size f.covariance) flags_are ∙ sym x.part_size in
      omega (arith, w, starts, long)

  copied : copy_to l at (at + length keeps) ≡ keeps
  unfolding copy_to
  copied =
      let d : List ℕ = digits 256 2 x.count in
      let f : List ℕ = x.front ++ (x.meta ∷ x.start ∷ x.stop ∷ x.accel ∷ []) in
      let k : List ℕ = x.about ++ (d ++ x.each) in
      let nine : length f ≡ 9 = length-append x.front (x.meta ∷ x.start ∷ x.stop ∷ x.accel ∷ [])
      ∙ omega (arith, x.five) in
      let a : drop at l ≡ f ++ (x.cov ∷ (tail ++ more)) = in_front
      ∙ sym (append_assoc x.front (x.meta ∷ x.start ∷ x.stop ∷ x.accel ∷ []) (x.cov ∷ (tail ++ more))) in
      let b : take 9 (drop at l) ≡ f = ap (take 9) a ∙ take_at f (x.cov ∷ (tail ++ more)) 9 nine in
      let c : drop (at + 10) l ≡ k ++ (x.part ++ more) =
      behind_ten ∙ ap (λ (y : List ℕ). (x.about ++ y) ++ more) (sym (append_assoc d x.each x.part))
      ∙ ap (λ (y : List ℕ). y ++ more) (sym (append_assoc x.about (d ++ x.each) x.part)) ∙ append_assoc k x.part more in
      let n : length k ≡ at + length keeps - (at + 10) = omega (
        arith,
        kept_long,
        length-append x.about (d ++ x.each),
        length-append d x.each,
        length_digits 256 2 x.count,
      ) in
      ap₂ (λ (y z : List ℕ). y ++ (0 ∷ z)) b (ap (take (at + length keeps - (at + 10))) c
      ∙ take_at k (x.part ++ more) (at + length keeps - (at + 10)) n)
      ∙ append_assoc x.front (x.meta ∷ x.start ∷ x.stop ∷ x.accel ∷ []) (0 ∷ k)
      ∙ sym x.keeps_is

  pub stands : Stands l at bs keeps
  stands =
      let n : length (drop at l) ≡ length bs + length more = ap length e ∙ length-append bs more in
      record {
        start = starts;
        behind = ends;
        copy = copied;
        ten = omega (arith, kept_long);
        shorter = omega (arith, long);
        within = omega (arith, n, length-drop at l, long, kept_long);
      }
