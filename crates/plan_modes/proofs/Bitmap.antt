-- Mode 1 behind its header's test, and mode 3, from the place at which their fields start.
-- Assumes nothing.
use Prim.Native.Nat.{ℕ, ◌+◌, ◌-◌, ◌*◌, ◌/◌, ◌%◌, ◌≤◌, ◌<◌}
use mathlib.Core.Path.{◌≡◌, refl, sym, ap, ◌∙◌}
use mathlib.Core.List.{List, [], ◌∷◌}
use mathlib.Core.Logic.{inl, inr}
use native.Mathlib.Omega.{arith}
use lib.ListN.{length, take, drop, length-drop}
use lib.Seq.{length-take-le}
use Rattle.format.specs.Digits.{value_at, bits_of}
use Rattle.std.specs.Prelude.{Bool, true, false, cond, ◌⊎◌, Result, Ok, Err}
use lib.Dec.{leb}
use borrow.Author.Tests.{leb-false}
use Rattle.bit_reader.specs.Readers.{enough_at}
use Rattle.format.specs.Refusals.{refuse}
use Rattle.format.specs.declared.Refusal.{Refusal}
use Rattle.format.specs.declared.Found.{Found}
use Rattle.format.specs.Syntax.{Syntax, unsigned, end, field, slots, Field, num, flags}
use Rattle.format.specs.Tables.{u}
use Rattle.format.specs.Body.{wholes}
use Rattle.format.specs.ByName.{ones, first_by, from}
use Rattle.format.specs.At.{read, found_at}
use Rattle.format.specs.declared.Fault.TheVariants.{BitmapHeaderCut, SlotsCut}
use Rattle.format.proofs.DigitLaws.{length_bits}
use Rattle.format.proofs.ReadLaws as laws
use Rattle.format.proofs.GroupLaws.{plainly, group_from, one_from}
use Rattle.plan_modes.specs.Modes.{bitmap_at, raw_at, bitmap_by, raw_by}
use Rattle.plan_modes.specs.declared.BeamhoppingMode.{BeamhoppingMode}
use Rattle.plan_modes.specs.declared.BeamhoppingMode.TheVariants.{Mode1, Reserved}

-- mode 1; e: where the plan ends, which makes no difference here
module _ (b : List ℕ) (e p : ℕ) (h : p + 32 ≤ 8 * length b) where
  abbrev size : ℕ
  size = value_at b (p + 1) 15

  -- the header's fields, in front of others
  abbrev put : List Field → List Field
  put ts =
      num unsigned "reserved_zero_future_use_size" 1 (value_at b p 1) ∷ num unsigned "bit_map_size" 15 size
      ∷ num unsigned "reserved_zero_future_use_slot" 1 (value_at b (p + 16) 1) ∷ num unsigned "current_slot" 15
      (value_at b (p + 17) 15) ∷ ts

  -- what is left behind the header
  head : bitmap_at b e p ≡ read b e (slots "slot_transmission_on" SlotsCut size end) (p + 32)
      (λ ts q. found_at (bitmap_by p (put ts)) q) Err
  unfolding bitmap_at
  head =
      let k : ℕ → Syntax =
      λ n. u "reserved_zero_future_use_slot" 1
      (u "current_slot" 15 (slots "slot_transmission_on" SlotsCut n end)) in
      let f : List Field → ℕ → Result (Found BeamhoppingMode) Refusal = λ ts q. found_at (bitmap_by p ts) q in
      laws.need_at b e p f Err BitmapHeaderCut 32
      (u "reserved_zero_future_use_size" 1 (field unsigned "bit_map_size" 15 k)) (omega arith)
      ∙ group_from b e p 0 (plainly "reserved_zero_future_use_size" 1 ∷ [])
      (field unsigned "bit_map_size" 15 k) f Err (omega arith)
      ∙ one_from b e p 1 unsigned "bit_map_size" 15 k
      (λ ts. f (num unsigned "reserved_zero_future_use_size" 1 (value_at b p 1) ∷ ts)) Err (omega arith)
      ∙ group_from b e p 16 (plainly "reserved_zero_future_use_slot" 1 ∷ plainly "current_slot" 15 ∷ [])
      (slots "slot_transmission_on" SlotsCut size end)
      (λ ts. f (num unsigned "reserved_zero_future_use_size" 1 (value_at b p 1) ∷ num unsigned "bit_map_size" 15
      size ∷ ts)) Err (omega arith)

  -- slots that `enough` refused
  pub bitmap_no : {sz : ℕ} {r : Result (Unit {0}) Refusal} {f : Refusal} → sz ≡ size
      → r ≡ enough_at b (p + 32) SlotsCut sz → r ≡ Err f
      → Err f ≡ bitmap_at b e p
  unfolding enough_at
  bitmap_no {sz} {r} {f} q c m = go (leb sz n) refl (sym m ∙ c)
    where
      n : ℕ
      n = 8 * length b - (p + 32)

      go : (t : Bool) → leb sz n ≡ t → Err f ≡ cond t (Ok (tt {0})) (Err (refuse SlotsCut sz n))
          → Err f ≡ bitmap_at b e p
      go true h z = let y : ⊥ = cc in absurd y
      go false h z =
          let w : f ≡ refuse SlotsCut sz n = cc in
          ap Err w
          ∙ rw q (sym (head ∙ laws.slots_no b e (p + 32) (λ ts q. found_at (bitmap_by p (put ts)) q) Err
          "slot_transmission_on" SlotsCut size end
          (rw q at (leb-false sz n h))))

  pub bitmap_there : {rs sz rc slot on : ℕ} → rs ≡ value_at b p 1 → sz ≡ size → rc ≡ value_at b (p + 16) 1
      → slot ≡ value_at b (p + 17) 15
      → p % 8 ≡ 0 → sz ≤ 8 * length b - (p + 32) → on ≡ ones (take sz (drop (8 * ((p + 32) / 8)) (bits_of b)))
      → found_at (Mode1 sz slot (record { start = (p + 32) / 8; length = (sz + 7) / 8; count = sz }) on rs rc)
      (p + 32 + 8 * ((sz + 7) / 8)) ≡ bitmap_at b e p
  unfolding first_by from
  bitmap_there {rs} {sz} {rc} {slot} {on} q1 q2 q3 q4 a m o =
      let z : 8 * ((p + 32) / 8) ≡ p + 32 = omega arith in
      let s : (p + 32) / 8 ≡ (p + 1 + 15 + 1 + 15) / 8 = ap (λ (k : ℕ). k / 8) (omega arith) in
      let l : size ≤ 8 * length b - (p + 32) = omega arith in
      let w : p + 32 + 8 * wholes size ≤ 8 * length b = omega arith in
      rw (o, z, q1, q2, q3, q4, s)
      (sym (head ∙ laws.slots_at b e (p + 32) (λ ts q. found_at (bitmap_by p (put ts)) q) Err
      "slot_transmission_on" SlotsCut size end l
      ∙ laws.end_at b e (p + 32 + 8 * wholes size)
      (λ ts q. found_at (bitmap_by p (put (flags "slot_transmission_on" (take size (drop (p + 32) (bits_of b))) ∷ ts)))
      q) Err w))

-- raw bytes: none where the plan's end is past the data or was passed, else those up to it
module _ (b : List ℕ) (e p : ℕ) (h : p ≤ 8 * length b) where
  pub raw_none : (8 * length b < e) ⊎ (e ≤ 8 * length b × (e ≤ p))
      → found_at (Reserved (record { start = p / 8; length = 0; count = 0 })) p ≡ raw_at b e p
  unfolding raw_at first_by from
  raw_none (inl m) = sym (laws.raw_past b e p (λ ts q. found_at (raw_by p ts) q) Err "reserved" h m)
  raw_none (inr m) = sym (laws.raw_before b e p (λ ts q. found_at (raw_by p ts) q) Err "reserved" h m.1)

  pub raw_there : p ≤ e → e ≤ 8 * length b
      → found_at (Reserved (record { start = p / 8; length = (e - p) / 8; count = (e - p) / 8 })) e ≡ raw_at b e p
  unfolding raw_at first_by from
  raw_there m l =
      let d : length (take (e - p) (drop p (bits_of b))) ≡ e - p =
      length-take-le (e - p) (drop p (bits_of b)) (omega (arith, length-drop p (bits_of b), length_bits b)) in
      sym (laws.raw_at b e p (λ ts q. found_at (raw_by p ts) q) Err "reserved" h m l
      ∙ ap (λ (k : ℕ). found_at (Reserved (record { start = p / 8; length = k / 8; count = k / 8 })) e) d)
