-- An ephemeris entry by its index: where there is none, and what it is.
-- Assumes nothing.
use Prim.Native.Nat.{ℕ, ◌+◌, ◌*◌, ◌≤◌, ◌<◌}
use mathlib.Core.Path.{◌≡◌, refl, sym, ap, ◌∙◌}
use mathlib.Core.Bool.{Bool, true, false}
use mathlib.Core.List.{List}
use native.Mathlib.Nat.{mul-le-mul, mul-le-mul_right, one-mul}
use native.Mathlib.Omega.{arith}
use lib.ListN.{length}
use Rattle.format.specs.Tables.{motion, acceleration}
use Rattle.format.specs.ByName.{first_by}
use Rattle.format.specs.At.{read}
use Rattle.bits.proofs.Tests.{below, not_below, at_most, not_at_most}
use Rattle.parts.specs.declared.Part.{Part}
use Rattle.passing.proofs.Passing.{group, yes_passed, no_passed, passed_end}
use Rattle.ephemeris.specs.Entry.{ephemeris_by, entry, entry_bytes, entry_width, entry_of, ephemeris_data_at}
use Rattle.ephemeris.specs.declared.EphemerisData.{EphemerisData}
use Rattle.std.specs.Prelude.{◌/◌, ◌⊎◌, Some, None}
use mathlib.Core.Logic.{inl, inr}
use Rattle.ephemeris.proofs.Entries.{motion_lines, full_lines}

-- an entry's bits and bytes
pub bytes_few : (accel : Bool) → (1 ≤ entry_bytes accel) × (entry_bytes accel ≤ 43)
bytes_few true = (omega arith, omega arith)
bytes_few false = (omega arith, omega arith)

pub width_bytes : (accel : Bool) → entry_width accel ≡ 8 * entry_bytes accel
width_bytes true = refl
width_bytes false = refl

pub bytes_of : {w : ℕ} (accel : Bool) → w ≡ entry_width accel → w / 8 ≡ entry_bytes accel
bytes_of true e = ap (λ (n : ℕ). n / 8) e
bytes_of false e = ap (λ (n : ℕ). n / 8) e

-- the entries in front of an index: not fewer bytes than entries, and no more than 43 bytes each
pub bytes_before : {size : ℕ} (accel : Bool) (index : ℕ) → size ≡ entry_bytes accel
    → (index ≤ size * index) × (index ≤ 4096 → size * index ≤ 43 * 4096)
bytes_before {size} accel index e =
    let some : 1 ≤ size = omega (arith, e, (bytes_few accel).0) in
    let few : size ≤ 43 = omega (arith, e, (bytes_few accel).1) in
    (omega (arith, mul-le-mul_right index some, one-mul index), λ h. mul-le-mul few h)

-- an entry that is all there
entry_read : (b : List ℕ) (p : ℕ) (accel : Bool) → p + entry_width accel ≤ 8 * length b
    → read b 0 (entry accel) p (λ ts q. Some (ephemeris_by accel ts)) (λ f. None) ≡ Some (entry_of b p accel)
unfolding first_by
entry_read b p true h =
    passed_end (yes_passed true motion refl (group full_lines h)) 0 (λ ts q. Some (ephemeris_by true ts)) (λ f. None)
entry_read b p false h =
    passed_end (no_passed false (λ s. motion (acceleration s)) refl (group motion_lines h)) 0
    (λ ts q. Some (ephemeris_by false ts)) (λ f. None)

module _ (b : List ℕ) (part : Part) (accel : Bool) (index : ℕ) where
  past_count : part.count ≤ index → None ≡ ephemeris_data_at b part accel index
  unfolding ephemeris_data_at
  past_count h = not_below _ _ h refl

  too_long : index < part.count → 4096 < length b → None ≡ ephemeris_data_at b part accel index
  unfolding ephemeris_data_at
  too_long h g = below _ _ h (not_at_most _ _ g refl)

  -- no such entry, or a body that is too long
  pub unlisted : (part.count ≤ index) ⊎ (index < part.count × (4096 < length b))
      → None ≡ ephemeris_data_at b part accel index
  unlisted (inl h) = past_count h
  unlisted (inr h) = too_long h.0 h.1

  module _ (h : index < part.count) (g : length b ≤ 4096) where
    pub outside : length b < part.start + entry_bytes accel * index + entry_bytes accel
        → None ≡ ephemeris_data_at b part accel index
    unfolding ephemeris_data_at
    outside l = below _ _ h (at_most _ _ g (not_at_most _ _ l refl))

    pub inside : {x : EphemerisData} {size : ℕ} → size ≡ entry_bytes accel → part.start + size * index + size ≤ length b
        → x ≡ entry_of b (8 * (part.start + size * index)) accel → Some x ≡ ephemeris_data_at b part accel index
    unfolding ephemeris_data_at
    inside {x} {size} e l q =
        let at : ℕ = part.start + entry_bytes accel * index in
        let n : at + entry_bytes accel ≤ length b = rw e at l in
        let w : 8 * at + entry_width accel ≤ 8 * length b = omega (arith, width_bytes accel) in
        let y : x ≡ entry_of b (8 * at) accel = rw e at q in
        below _ _ h (at_most _ _ g (at_most _ _ n (ap Some y ∙ sym (entry_read b (8 * at) accel w))))

    -- with fewer bytes than its part's start says, or than entries in front of it
    pub afar : (length b < part.start) ⊎ (part.start ≤ length b × (length b < index))
        → None ≡ ephemeris_data_at b part accel index
    afar (inl l) = outside (omega (arith, (bytes_few accel).0))
    afar (inr l) = outside (omega (arith, l.1, (bytes_few accel).0, (bytes_before accel index refl).0))
