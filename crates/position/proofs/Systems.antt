-- The steps of the proofs at a position: its fields where all of them are there, its kind, and the satellite around it.
-- Assumes nothing.
use Prim.Native.Nat.{ℕ, ◌+◌, ◌-◌, ◌*◌, ◌≤◌, ◌<◌}
use mathlib.Core.Path.{◌≡◌, refl, sym, ap, ◌∙◌, subst}
use mathlib.Core.List.{List, [], ◌∷◌, ◌++◌}
use native.Mathlib.Omega.{arith}
use lib.Dec.{eqb}
use lib.ListN.{length}
use Rattle.std.specs.Prelude.{Result, Ok, Err}
use borrow.Author.Tests.{ne_eqb}
use Rattle.format.specs.Syntax.{unsigned, end, when, need, Field}
use Rattle.format.specs.Tables.{orbital, elements, position}
use Rattle.format.specs.Body.{read_body}
use Rattle.format.specs.ByName.{first_by}
use Rattle.format.specs.At.{read, found_at}
use Rattle.format.specs.declared.Fault.{Fault}
use Rattle.format.specs.declared.Fault.TheVariants.{OrbitalCut, ElementsCut}
use Rattle.format.specs.declared.Refusal.{Refusal}
use Rattle.format.specs.declared.Found.{Found}
use Rattle.format.proofs.ReadLaws as laws
use Rattle.format.proofs.GroupLaws.{Line, plainly, fields, shift, shift_add, ends, stand, group}
use Rattle.bits.specs.Read.{read_at}
use Rattle.bits.proofs.Reading.{got, enough, sub}
use Rattle.bit_reader.specs.Readers.{enough_at}
use Rattle.bit_reader.proofs.Reading.{lacked}
use Rattle.bit_reader.proofs.Reading as group-reading
use Rattle.position.specs.Satellite.{orbital_of, elements_of, system_of, satellite_of, satellite_at, orbital_at, elements_at, system_at}
use Rattle.position.specs.declared.PositionSystem.{PositionSystem}
use Rattle.position.specs.declared.PositionV2Satellite.{PositionV2Satellite}

-- the lines of each kind
abbrev pub orbital_lines : List Line
orbital_lines = plainly "orbital_position" 16 ∷ plainly "west_east_flag" 1 ∷ plainly "position.reserved_zero_future_use" 7 ∷ []

abbrev pub element_lines_lem : List Line
element_lines_lem =
    plainly "epoch_year" 8 ∷
    plainly "day_of_the_year" 16 ∷
    plainly "day_fraction" 32 ∷
    plainly "mean_motion_first_derivative" 32 ∷
    plainly "mean_motion_second_derivative" 32 ∷
    plainly "drag_term" 32 ∷
    plainly "inclination" 32 ∷
    plainly "right_ascension" 32 ∷
    plainly "eccentricity" 32 ∷
    plainly "argument_of_perigree" 32 ∷
    plainly "mean_anomaly" 32 ∷
    plainly "mean_motion" 32 ∷
    []

-- a test of so many bits and then lines that take them, where all are there
tested : {A : Type 0} {x : A} (b : List ℕ) (e p : ℕ) (a : Fault) (ls : List Line) (found : List Field → ℕ → A) (fail : Refusal → A) → p + ends 0 ls ≤ 8 * length b
    → x ≡ found (stand b p 0 ls ++ []) (shift p (ends 0 ls))
    → x ≡ read b e (need a (ends 0 ls) (fields ls end)) p found fail
tested b e p a ls found fail h q =
    enough b e p found fail a (ends 0 ls) (fields ls end) (omega arith)
    (group b e p ls end found fail h
    (q ∙ sym (laws.end_at b e (shift p (ends 0 ls)) (λ ts. found (stand b p 0 ls ++ ts)) fail (omega (arith, shift_add p (ends 0 ls))))))

-- a position of which bits are missing, by a test of w bits that is one of 24 where it fails
pub orbital_short : {w : ℕ} {t : Result (Unit {0}) Refusal} {f : Refusal} (b : List ℕ) (p : ℕ) → t ≡ enough_at b p OrbitalCut w → t ≡ Err f → (8 * length b - p < w → w ≡ 24)
    → Err f ≡ orbital_at b p
unfolding orbital_at
orbital_short {w} {t} b p e m h =
    let z : t ≡ enough_at b p OrbitalCut 24 = subst (λ (k : ℕ). t ≡ enough_at b p OrbitalCut k) (h (lacked b p w OrbitalCut e m).0) e in
    group-reading.short b 0 p (λ ts n. found_at (orbital_of ts) n) Err OrbitalCut 24 _ z m refl

module _ {r : Result (Found PositionSystem) Refusal} (b : List ℕ) (p : ℕ) where
  -- a position of which all bits are there
  pub orbital_there : p + 24 ≤ 8 * length b → r ≡ found_at (orbital_of (stand b p 0 orbital_lines)) (p + 24)
      → r ≡ orbital_at b p
  unfolding orbital_at
  orbital_there h q = tested b 0 p OrbitalCut orbital_lines (λ ts n. found_at (orbital_of ts) n) Err h q

  pub elements_there : p + 344 ≤ 8 * length b → r ≡ found_at (elements_of (stand b p 0 element_lines_lem)) (p + 344)
      → r ≡ elements_at b p
  unfolding elements_at
  elements_there h q = tested b 0 p ElementsCut element_lines_lem (λ ts n. found_at (elements_of ts) n) Err h q

  -- the kind, by position_system
  pub is_orbital : {k : ℕ} → k ≡ 0 → r ≡ orbital_at b p → r ≡ system_at b k p
  unfolding system_at orbital_at read read_body
  is_orbital h q = rw h q

  pub is_elements : {k : ℕ} → (k ≡ 0 → ⊥) → r ≡ elements_at b p → r ≡ system_at b k p
  unfolding system_at elements_at read read_body
  is_elements {k} h q = rw (ne_eqb k 0 h) q

-- a satellite of an id and reserved bits around its position
after : ℕ → ℕ → Result (Found PositionSystem) Refusal → Result (Found PositionV2Satellite) Refusal
after id reserved (Ok x) = found_at (record { satellite_id = id; position = x.value; reserved_zero_future_use = reserved }) x.next
after id reserved (Err f) = Err f

-- where these and position_system were read
module _ {id reserved kind : Found ℕ} {r1 r2 r3 : Result (Found ℕ) Refusal} {y : Result (Found PositionSystem) Refusal} (b : List ℕ) (p : ℕ)
    (e1 : r1 ≡ read_at b p 24) (m1 : r1 ≡ Ok id) (e2 : r2 ≡ read_at b id.next 7) (m2 : r2 ≡ Ok reserved)
    (e3 : r3 ≡ read_at b reserved.next 1) (m3 : r3 ≡ Ok kind) (h : y ≡ system_at b kind.value kind.next)
  where
    around : {x : Result (Found PositionV2Satellite) Refusal} → x ≡ after id.value reserved.value y
        → x ≡ satellite_at b p
    unfolding system_at satellite_at satellite_of position after first_by
    around w =
        got b 0 p _ _ unsigned "satellite_id" 24 _ e1 m1
        (got b 0 id.next _ _ unsigned "reserved_zero_future_use" 7 _ e2 m2
        (got b 0 reserved.next _ _ unsigned "position_system" 1 _ e3 m3
        (sub b 0 (when (eqb kind.value 0) orbital elements) kind.next _ Err (λ ts q. found_at (system_of kind.value ts) q) Err
        (after id.value reserved.value) (λ ts q. refl) (λ f. refl) h w)))

    pub satellite_got : {m : Found PositionSystem} → y ≡ Ok m
        → found_at (record { satellite_id = id.value; position = m.value; reserved_zero_future_use = reserved.value }) m.next ≡ satellite_at b p
    unfolding after
    satellite_got m = around (ap (after id.value reserved.value) (sym m))

    pub satellite_cut : {x : Result (Found PositionV2Satellite) Refusal} {f : Refusal} → y ≡ Err f → x ≡ Err f
        → x ≡ satellite_at b p
    unfolding after
    satellite_cut m w = around (w ∙ ap (after id.value reserved.value) (sym m))
