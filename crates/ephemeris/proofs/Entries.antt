-- What comes of the ephemeris data: the count, and the entries that it counts.
-- Assumes nothing.
use Prim.Native.Nat.{ℕ, ◌+◌, ◌*◌, ◌-◌, ◌%◌, ◌^◌, ◌≤◌, ◌<◌}
use mathlib.Core.Path.{◌≡◌, refl, sym, ap, ◌∙◌}
use mathlib.Core.Bool.{Bool, true, false, cond}
use mathlib.Core.List.{List, [], ◌∷◌, ◌++◌}
use native.Mathlib.Nat.{mul-le-mul}
use native.Mathlib.Omega.{arith}
use lib.Dec.{leb, eqb}
use lib.ListN.{length}
use borrow.Author.Tests.{leb-true, leb-false}
use Rattle.format.specs.Digits.{value_at}
use Rattle.std.specs.Prelude.{Result, Ok, Err}
use Rattle.std.specs.Int.{from_bool}
use Rattle.format.specs.Refusals.{refuse}
use Rattle.format.specs.Syntax.{unsigned, num}
use Rattle.format.specs.Tables.{times, motion, acceleration, ephemeris}
use Rattle.format.specs.ByName.{first_by, behind}
use Rattle.format.specs.At.{found_at}
use Rattle.format.specs.declared.Refusal.{Refusal}
use Rattle.format.specs.declared.Found.{Found}
use Rattle.format.specs.declared.Fault.TheVariants.{FieldCut, EphemerisCut}
use Rattle.format.proofs.GroupLaws.{Line, plainly, stand}
use Rattle.format.proofs.ListLaws.{many}
use Rattle.bits.specs.Read.{Place}
use Rattle.bits.proofs.Answers.{Got, Cut}
use Rattle.parts.specs.Parts.{part_from, part_by}
use Rattle.parts.specs.declared.Part.{Part}
use Rattle.passing.proofs.Passing.{stamp_lines, other_left, Passed, Stopped, group, enough, short, yes_passed, no_passed, yes_stopped, no_stopped, wider, field_passed, field_stopped, field_short, several, several_stopped, Told, Outcome, there, cut, told, stopped, told_answer, stopped_answer}
use Rattle.ephemeris.specs.Entry.{entry_width}
use Rattle.ephemeris.specs.Ephemeris.{entry_bits, counted, ephemerides_at}

-- the lines of an entry without acceleration, and with it
abbrev pub motion_lines : List Line
motion_lines =
    stamp_lines "epoch"
    ++ (plainly "ephemeris_x" 32 ∷ plainly "ephemeris_y" 32 ∷ plainly "ephemeris_z" 32
    ∷ plainly "ephemeris_x_dot" 32 ∷ plainly "ephemeris_y_dot" 32 ∷ plainly "ephemeris_z_dot" 32 ∷ [])

abbrev pub accel_lines : List Line
accel_lines = plainly "ephemeris_x_ddot" 32 ∷ plainly "ephemeris_y_ddot" 32 ∷ plainly "ephemeris_z_ddot" 32 ∷ []

abbrev pub full_lines : List Line
full_lines = motion_lines ++ accel_lines

module _ (b : List ℕ) (accel : ℕ) where
  abbrev N : ℕ
  N = 8 * length b

  -- one entry, by the flag
  full : eqb accel 1 ≡ true → (q : ℕ) → q + 344 ≤ N
      → Passed b (ephemeris accel) full_lines q (q + 344) (λ ts. stand b q 0 full_lines ++ ts)
  full h q g = yes_passed (eqb accel 1) _ h (enough EphemerisCut 344 (omega arith) (group full_lines g))

  full_short : eqb accel 1 ≡ true → (q : ℕ) → N - q < 344
      → Stopped b (ephemeris accel) q (refuse EphemerisCut 344 (N - q))
  full_short h q g = yes_stopped (eqb accel 1) _ h (short (λ s. motion (acceleration s)) EphemerisCut 344 g)

  plain : eqb accel 1 ≡ false → (q : ℕ) → q + 248 ≤ N
      → Passed b (ephemeris accel) motion_lines q (q + 248) (λ ts. stand b q 0 motion_lines ++ ts)
  plain h q g = no_passed (eqb accel 1) _ h (enough EphemerisCut 248 (omega arith) (group motion_lines g))

  plain_short : eqb accel 1 ≡ false → (q : ℕ) → N - q < 248
      → Stopped b (ephemeris accel) q (refuse EphemerisCut 248 (N - q))
  plain_short h q g = no_stopped (eqb accel 1) _ h (short motion EphemerisCut 248 g)

  -- so many of them; nothing is made of their fields here
  list_passed : ℕ → ℕ → ℕ → Type 1
  list_passed p n q = Told b (times n (ephemeris accel)) full_lines (λ ts. tt {0}) p (tt {0}) q

  list_there : (p n : ℕ) → p + n * entry_bits accel ≤ N → list_passed p n (p + n * entry_bits accel)
  unfolding list_passed
  list_there p n = go (eqb accel 1) refl
    where
      go : (t : Bool) → eqb accel 1 ≡ t → p + n * cond t 344 248 ≤ N → list_passed p n (p + n * cond t 344 248)
      go true h g =
          record {
            put = many b p n full_lines;
            passed =
                several full_lines (ephemeris accel) p n g (full h);
            value = λ ts. refl;
          }
      go false h g =
          record {
            put = many b p n motion_lines;
            passed = wider full_lines (λ nm o. other_left nm motion_lines accel_lines o)
                (several motion_lines (ephemeris accel) p n g (plain h));
            value = λ ts. refl;
          }

  list_short : (p n : ℕ) → p ≤ N → N < p + n * entry_bits accel
      → Stopped b (times n (ephemeris accel)) p (refuse EphemerisCut (entry_bits accel) ((N - p) % entry_bits accel))
  list_short p n l = go (eqb accel 1) refl
    where
      go : (t : Bool) → eqb accel 1 ≡ t → N < p + n * cond t 344 248
          → Stopped b (times n (ephemeris accel)) p (refuse EphemerisCut (cond t 344 248) ((N - p) % cond t 344 248))
      go true h g = several_stopped full_lines (ephemeris accel) EphemerisCut p n l g (full h) (full_short h)
      go false h g = several_stopped motion_lines (ephemeris accel) EphemerisCut p n l g (plain h) (plain_short h)

-- the count, and the entries behind it
abbrev pub ephemeris_lines : List Line
ephemeris_lines = plainly "ephemeris_data_count" 16 ∷ full_lines

module _ (b : List ℕ) (accel p : ℕ) where
  abbrev count : ℕ
  count = value_at b p 16

  abbrev pub Listed : Part → ℕ → Type 1
  Listed t q = Told b (counted accel) ephemeris_lines (part_by "ephemeris_data_count" (entry_bits accel) p) p t q

  pub listed : p + 16 + count * entry_bits accel ≤ 8 * length b
      → Listed (part_from (entry_bits accel) (p + 16) count) (p + 16 + count * entry_bits accel)
  unfolding first_by behind list_passed
  listed h =
      let l = list_there b accel (p + 16) count h in
      record {
        put = λ ts. num unsigned "ephemeris_data_count" 16 count ∷ l.put ts;
        passed = field_passed unsigned "ephemeris_data_count" 16 (λ n s. times n (ephemeris accel) s) (p + 16)
            refl (omega arith) l.passed;
        value = λ ts. refl;
      }

  abbrev pub Unlisted : Refusal → Type 1
  Unlisted r = Stopped b (counted accel) p r

  pub count_short : p ≤ 8 * length b → 8 * length b < p + 16 → Unlisted (refuse FieldCut (p + 16) (8 * length b))
  count_short l h = field_short unsigned "ephemeris_data_count" 16 (λ n s. times n (ephemeris accel) s) l h

  pub entries_short : p + 16 ≤ 8 * length b → 8 * length b < p + 16 + count * entry_bits accel
      → Unlisted (refuse EphemerisCut (entry_bits accel) ((8 * length b - (p + 16)) % entry_bits accel))
  entries_short l h =
      field_stopped unsigned "ephemeris_data_count" 16 (λ n s. times n (ephemeris accel) s) (p + 16) refl l
      (list_short b accel (p + 16) count l h)

  abbrev Cases : Type 1
  Cases = Outcome b (counted accel) p Listed

  cases : Place b p → Cases
  cases l = go (leb (p + 16) (8 * length b)) refl (leb (p + 16 + count * entry_bits accel) (8 * length b)) refl
    where
      go : (t : Bool) → leb (p + 16) (8 * length b) ≡ t → (t' : Bool)
          → leb (p + 16 + count * entry_bits accel) (8 * length b) ≡ t' → Cases
      go true h true g = there _ _ (listed (leb-true (p + 16 + count * entry_bits accel) (8 * length b) g))
      go true h false g =
          cut _ (entries_short (leb-true (p + 16) (8 * length b) h)
          (leb-false (p + 16 + count * entry_bits accel) (8 * length b) g))
      go false h t' g = cut _ (count_short l.within (leb-false (p + 16) (8 * length b) h))

  -- what an answer of `read_ephemerides` tells
  module _ {r : Result (Found Part) Refusal} (l : Place b p) (e : r ≡ ephemerides_at b accel p) where
    pub listed_told : {x : Found Part} → r ≡ Ok x → Listed x.value x.next
    unfolding ephemerides_at
    listed_told m = told _ told_answer (cases l) e m

    pub listed_stopped : {f : Refusal} → r ≡ Err f → Unlisted f
    unfolding ephemerides_at
    listed_stopped m = stopped _ told_answer (cases l) e m

  -- what `read_ephemerides` returns, by its own numbers
  pub uncounted_answer : {f : Refusal} → Cut b p 16 f → p ≤ 8 * length b → Err f ≡ ephemerides_at b accel p
  unfolding ephemerides_at
  uncounted_answer c l = ap Err c.why ∙ sym (stopped_answer _ (count_short l c.short))

  module _ {x : Found ℕ} {w : ℕ} (o : Got b p 16 x) (g : w ≡ entry_bits accel) where
    pub listed_answer : x.value * w ≤ 8 * length b - x.next
        → found_at (part_from w x.next x.value) (x.next + x.value * w) ≡ ephemerides_at b accel p
    unfolding ephemerides_at
    listed_answer h =
        let z : x.value * w ≡ count * entry_bits accel = rw (o.value, g) in
        rw (o.value, o.next, g) (sym (told_answer _ _ (listed (omega (arith, z, o.next, o.there)))))

    pub short_answer : 8 * length b - x.next < x.value * w
        → Err (refuse EphemerisCut w ((8 * length b - x.next) % w)) ≡ ephemerides_at b accel p
    unfolding ephemerides_at
    short_answer h =
        let z : x.value * w ≡ count * entry_bits accel = rw (o.value, g) in
        rw (o.next, g) (sym (stopped_answer _ (entries_short (omega (arith, o.there)) (omega (arith, z, o.next)))))

-- an entry's bits: by the flag that stands for the number; some, and few
pub width_bits : {w : ℕ} (accel : Bool) → w ≡ entry_width accel → w ≡ entry_bits (from_bool accel)
width_bits true e = e
width_bits false e = e

pub bits_some : (accel : ℕ) → (0 < entry_bits accel) × (entry_bits accel ≤ 344)
bits_some accel = go (eqb accel 1)
  where
    go : (t : Bool) → (0 < cond t 344 248) × (cond t 344 248 ≤ 344)
    go true = (omega arith, omega arith)
    go false = (omega arith, omega arith)

pub entries_small : {v w : ℕ} (accel : ℕ) → v < 2 ^ 16 → w ≡ entry_bits accel → v * w ≤ 65536 * 344
entries_small {v} {w} accel h e =
    let few : v ≤ 65536 = omega arith in
    let short : w ≤ 344 = omega (arith, e, (bits_some accel).1) in
    mul-le-mul few short
