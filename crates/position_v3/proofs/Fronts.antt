-- What comes of a satellite's id, reserved bits and flags.
-- Assumes nothing.
use Prim.Native.Nat.{ℕ, ◌+◌, ◌*◌, ◌%◌, ◌≤◌, ◌<◌}
use mathlib.Core.Path.{◌≡◌, refl, sym, ap, subst, ◌∙◌}
use mathlib.Core.Bool.{Bool, true, false}
use mathlib.Core.List.{List, [], ◌∷◌, ◌++◌}
use native.Mathlib.Omega.{arith}
use lib.Dec.{leb, eqb}
use lib.ListN.{length}
use borrow.Author.Tests.{leb-true, leb-false}
use Rattle.std.specs.Prelude.{Result, Ok, Err}
use Rattle.std.specs.Int.{from_bool}
use Rattle.format.specs.Digits.{value_at}
use Rattle.format.specs.Refusals.{refuse}
use Rattle.format.specs.Syntax.{Syntax, unsigned, end, Field}
use Rattle.format.specs.ByName.{first_by}
use Rattle.format.specs.At.{found_at}
use Rattle.format.specs.declared.Refusal.{Refusal}
use Rattle.format.specs.declared.Found.{Found}
use Rattle.format.specs.declared.Fault.TheVariants.{FieldCut}
use Rattle.format.proofs.GroupLaws.{Line, plainly, stand}
use Rattle.bits.specs.Read.{read_at}
use Rattle.bits.proofs.Reading.{got, sub}
use Rattle.bits.proofs.Values.{value_at_lt}
use Rattle.passing.proofs.Passing.{flag_bit, Passed, Stopped, nothing, field_passed, field_stopped, field_short, passed_end}
use Rattle.position_v3.specs.PositionV3.{flags, flags_by, flags_at, front, front_by, front_of, front_at}
use Rattle.position_v3.specs.declared.Flags.{Flags}
use Rattle.position_v3.specs.declared.Front.{Front}

abbrev pub front_lines : List Line
front_lines =
    plainly "satellite_id" 24 ∷ plainly "reserved_zero_future_use" 3 ∷ plainly "metadata_flag" 1 ∷ plainly
    "usable_start_time_flag" 1
    ∷ plainly "usable_stop_time_flag" 1 ∷ plainly "ephemeris_accel_flag" 1 ∷ plainly "covariance_flag" 1 ∷ []

-- what follows the flags, in front of others
abbrev pub Rest : Type 0
Rest = ℕ → ℕ → ℕ → ℕ → ℕ → Syntax → Syntax

abbrev pub fronted : Rest → Syntax → Syntax
fronted k s = front (λ m t u a c. k m t u a c s)

-- a front of its id, its reserved bits, its metadata's flag and the answer for the other flags
unfoldable made : ℕ → ℕ → Bool → Result (Found Flags) Refusal → Result (Found Front) Refusal
made i z m (Ok f) = found_at (record { satellite_id = i; reserved = z; metadata = m; flags = f.value }) f.next
made i z m (Err g) = Err g

-- a bit is the number of the flag that it is read as
pub bit : (b : List ℕ) (q : ℕ) → from_bool (eqb (value_at b q 1) 1) ≡ value_at b q 1
bit b q = flag_bit (value_at b q 1) (value_at_lt b q 1)

module _ (b : List ℕ) (p : ℕ) where
  -- what follows the flags, by those that the front has
  abbrev pub flagged : Rest → Syntax → Syntax
  flagged k s =
      let f = front_of b p in
      k (from_bool f.metadata) (from_bool f.flags.start) (from_bool f.flags.stop) (from_bool f.flags.accel)
      (from_bool f.flags.covariance) s

  by_bits : (k : Rest)
      → flagged k ≡ k (value_at b (p + 27) 1) (value_at b (p + 28) 1) (value_at b (p + 29) 1)
      (value_at b (p + 30) 1) (value_at b (p + 31) 1)
  by_bits k = λ i. k (bit b (p + 27) i) (bit b (p + 28) i) (bit b (p + 29) i) (bit b (p + 30) i) (bit b (p + 31) i)

  pub front_passed : {q : ℕ} {ls : List Line} {put : List Field → List Field} (k : Rest) → p + 32 ≤ 8 * length b
      → Passed b (flagged k) ls (p + 32) q put
      → Passed b (fronted k) (front_lines ++ ls) p q (λ ts. stand b p 0 front_lines ++ put ts)
  front_passed {q} {ls} {put} k h one =
      field_passed unsigned "satellite_id" 24 _ (p + 24) refl (omega arith)
      (field_passed unsigned "reserved_zero_future_use" 3 _ (p + 27) (omega arith) (omega arith)
      (field_passed unsigned "metadata_flag" 1 _ (p + 28) (omega arith) (omega arith)
      (field_passed unsigned "usable_start_time_flag" 1 _ (p + 29) (omega arith) (omega arith)
      (field_passed unsigned "usable_stop_time_flag" 1 _ (p + 30) (omega arith) (omega arith)
      (field_passed unsigned "ephemeris_accel_flag" 1 _ (p + 31) (omega arith) (omega arith)
      (field_passed unsigned "covariance_flag" 1 _ (p + 32) (omega arith) h
      (subst (λ (g : Syntax → Syntax). Passed b g ls (p + 32) q put) (by_bits k) one)))))))

  pub front_behind : {g : Refusal} (k : Rest) → p + 32 ≤ 8 * length b → Stopped b (flagged k) (p + 32) g
      → Stopped b (fronted k) p g
  front_behind {g} k h one =
      field_stopped unsigned "satellite_id" 24 _ (p + 24) refl (omega arith)
      (field_stopped unsigned "reserved_zero_future_use" 3 _ (p + 27) (omega arith) (omega arith)
      (field_stopped unsigned "metadata_flag" 1 _ (p + 28) (omega arith) (omega arith)
      (field_stopped unsigned "usable_start_time_flag" 1 _ (p + 29) (omega arith) (omega arith)
      (field_stopped unsigned "usable_stop_time_flag" 1 _ (p + 30) (omega arith) (omega arith)
      (field_stopped unsigned "ephemeris_accel_flag" 1 _ (p + 31) (omega arith) (omega arith)
      (field_stopped unsigned "covariance_flag" 1 _ (p + 32) (omega arith) h
      (subst (λ (f : Syntax → Syntax). Stopped b f (p + 32) g) (by_bits k) one)))))))

  -- cut short in its id, or behind it
  pub id_short : (k : Rest) → p ≤ 8 * length b → 8 * length b < p + 24
      → Stopped b (fronted k) p (refuse FieldCut (p + 24) (8 * length b))
  id_short k l h = field_short unsigned "satellite_id" 24 _ l h

  pub reserved_short : (k : Rest) → p + 24 ≤ 8 * length b → 8 * length b < p + 24 + 3
      → Stopped b (fronted k) p (refuse FieldCut (p + 24 + 3) (8 * length b))
  reserved_short k l h =
      field_stopped unsigned "satellite_id" 24 _ (p + 24) refl l
      (field_short unsigned "reserved_zero_future_use" 3 _ l h)

  -- read alone
  pub front_answer : p + 32 ≤ 8 * length b → front_at b p ≡ found_at (front_of b p) (p + 32)
  unfolding front_at first_by
  front_answer h =
      passed_end (front_passed (λ m t u a c s. s) h (nothing [] h)) 0 (λ ts q. found_at (front_by ts) q) Err

  pub id_answer : p ≤ 8 * length b → 8 * length b < p + 24
      → front_at b p ≡ Err (refuse FieldCut (p + 24) (8 * length b))
  unfolding front_at
  id_answer l h = (id_short (λ m t u a c s. s) l h).stop 0 end (λ ts q. found_at (front_by ts) q) Err

  pub reserved_answer : p + 24 ≤ 8 * length b → 8 * length b < p + 24 + 3
      → front_at b p ≡ Err (refuse FieldCut (p + 24 + 3) (8 * length b))
  unfolding front_at
  reserved_answer l h = (reserved_short (λ m t u a c s. s) l h).stop 0 end (λ ts q. found_at (front_by ts) q) Err

  -- behind three fields that were read, the answer for the flags makes the front's. i, z, m: what was found
  module _ {r : Result (Found Flags) Refusal} {x y w : Result (Found ℕ) Refusal} {i z m : Found ℕ}
      (e : x ≡ read_at b p 24) (g : x ≡ Ok i)
      (e' : y ≡ read_at b i.next 3) (g' : y ≡ Ok z) (e'' : w ≡ read_at b z.next 1) (g'' : w ≡ Ok m)
      (h : r ≡ flags_at b m.next) where
    behind : made i.value z.value (eqb m.value 1) r ≡ front_at b p
    unfolding front_at flags_at first_by made
    behind =
        got b 0 p _ _ unsigned "satellite_id" 24 _ e g (got b 0 i.next _ _ unsigned "reserved_zero_future_use" 3 _ e' g'
        (got b 0 z.next _ _ unsigned "metadata_flag" 1 _ e'' g''
        (sub b 0 (flags (λ _ _ _ _. end)) m.next _ _ (λ ts q. found_at (flags_by ts) q) Err
        (made i.value z.value (eqb m.value 1)) (λ ts q. refl) (λ f. refl) h refl)))

    pub flags_got : {f : Found Flags} → r ≡ Ok f
        → found_at (record { satellite_id = i.value; reserved = z.value; metadata = eqb m.value 1; flags = f.value })
        f.next ≡ front_at b p
    unfolding made
    flags_got o = ap (made i.value z.value (eqb m.value 1)) (sym o) ∙ behind

    pub flags_cut : {f : Refusal} → r ≡ Err f → Err f ≡ front_at b p
    unfolding made
    flags_cut o = ap (made i.value z.value (eqb m.value 1)) (sym o) ∙ behind

  -- on a byte, one of these holds
  cases : {P : Type 1} → p % 8 ≡ 0 → p ≤ 8 * length b → (p + 32 ≤ 8 * length b → P) → (8 * length b < p + 24 → P)
      → (p + 24 ≤ 8 * length b → 8 * length b < p + 24 + 3 → P) → P
  cases {P} a l all none some = go (leb (p + 24) (8 * length b)) refl (leb (p + 32) (8 * length b)) refl
    where
      go : (t : Bool) → leb (p + 24) (8 * length b) ≡ t → (t' : Bool) → leb (p + 32) (8 * length b) ≡ t' → P
      go true h true g = all (leb-true (p + 32) (8 * length b) g)
      go true h false g =
          let i : p + 24 ≤ 8 * length b = leb-true (p + 24) (8 * length b) h in
          let j : 8 * length b < p + 32 = leb-false (p + 32) (8 * length b) g in
          some i (omega arith)
      go false h t' g = none (leb-false (p + 24) (8 * length b) h)

  -- what an answer of `read_front` tells
  pub record Fronted (x : Found Front) : Type 1 where
    pub value : x.value ≡ front_of b p
    pub next : x.next ≡ p + 32
    pub room : p + 32 ≤ 8 * length b

  module _ {r : Result (Found Front) Refusal} (a : p % 8 ≡ 0) (l : p ≤ 8 * length b) (e : r ≡ front_at b p) where
    pub front_told : {x : Found Front} → r ≡ Ok x → Fronted x
    front_told {x} m =
        cases a l
        (λ h. let z : Ok x ≡ found_at (front_of b p) (p + 32) = sym m ∙ e ∙ front_answer h in
        let w : x ≡ record { value = front_of b p; next = p + 32 } = cc in
        record { value = ap (λ (y : Found Front). y.value) w; next = ap (λ (y : Found Front). y.next) w; room = h })
        (λ h. let z : Ok x ≡ Err _ = sym m ∙ e ∙ id_answer l h in let y : ⊥ = cc in absurd y)
        (λ i h. let z : Ok x ≡ Err _ = sym m ∙ e ∙ reserved_answer i h in let y : ⊥ = cc in absurd y)

    pub front_stopped : {f : Refusal} (k : Rest) → r ≡ Err f → Stopped b (fronted k) p f
    front_stopped {f} k m =
        cases a l
        (λ h. let z : Err f ≡ found_at (front_of b p) (p + 32) = sym m ∙ e
        ∙ front_answer h in let y : ⊥ = cc in absurd y)
        (λ h. let z : Err f ≡ Err (refuse FieldCut (p + 24) (8 * length b)) = sym m ∙ e ∙ id_answer l h in
        let w : f ≡ refuse FieldCut (p + 24) (8 * length b) = cc in rw w (id_short k l h))
        (λ i h. let z : Err f ≡ Err (refuse FieldCut (p + 24 + 3) (8 * length b)) = sym m ∙ e ∙ reserved_answer i h in
        let w : f ≡ refuse FieldCut (p + 24 + 3) (8 * length b) = cc in rw w (reserved_short k i h))
