-- What comes of a usable time, by its flag and by the bits that are there.
-- Assumes nothing.
use Prim.Native.Nat.{ℕ, ◌+◌, ◌*◌, ◌-◌, ◌≤◌}
use mathlib.Core.Path.{◌≡◌, refl, sym, ap}
use mathlib.Core.Bool.{Bool, true, false, cond}
use mathlib.Core.List.{List, ◌++◌}
use native.Mathlib.Omega.{arith}
use lib.Dec.{eqb}
use lib.ListN.{length}
use Rattle.std.specs.Prelude.{Option, Some, None, Result, Ok, Err}
use Rattle.format.specs.Refusals.{fault_number}
use Rattle.format.specs.Syntax.{Name, Field}
use Rattle.format.specs.Tables.{usable, stamp}
use Rattle.format.specs.ByName.{first_by}
use Rattle.format.specs.declared.Fault.{Fault}
use Rattle.format.specs.declared.Refusal.{Refusal}
use Rattle.format.specs.declared.Found.{Found}
use Rattle.format.proofs.GroupLaws.{stand}
use Rattle.bits.specs.Read.{Place}
use Rattle.bit_reader.specs.Readers.{enough_at}
use Rattle.bit_reader.proofs.Reading as groups
use Rattle.bit_reader.proofs.Reading.{enough_room}
use Rattle.passing.proofs.Passing.{stamp_lines, Stopped, nothing, group, enough, yes_passed, no_passed, yes_stopped, Told, Outcome, there, cut, told_answer, told, stopped}
use Rattle.metadata.specs.Metadata.{usable_by, maybe_usable, time_name, usable_at, usable_of}
use Rattle.metadata.specs.declared.UsableTime.{UsableTime}

-- the time of a stamp's own fields, in front of others
usable_value : (fault : Fault) (b : List ℕ) (p : ℕ) (ts : List Field)
    → usable_by (time_name fault) (stand b p 0 (stamp_lines (time_name fault)) ++ ts) ≡ usable_of b p
unfolding first_by
usable_value fault b p ts = go (eqb (fault_number fault) 17)
  where
    go : (t : Bool) → let nm = cond {A = Name} t "usable_start_time" "usable_stop_time" in
        usable_by nm (stand b p 0 (stamp_lines nm) ++ ts) ≡ usable_of b p
    go true = refl
    go false = refl

module _ (b : List ℕ) (fault : Fault) (flag p : ℕ) where
  abbrev pub Used : Option UsableTime → ℕ → Type 1
  Used t q = Told b (usable fault (time_name fault) flag) (stamp_lines (time_name fault))
      (maybe_usable (time_name fault) flag) p t q

  used : eqb flag 1 ≡ true → 56 ≤ 8 * length b - p → Used (Some (usable_of b p)) (p + 56)
  used h g =
      record {
        put = λ ts. stand b p 0 (stamp_lines (time_name fault)) ++ ts;
        passed = yes_passed (eqb flag 1) (λ s. s) h
            (enough fault 56 g (group (stamp_lines (time_name fault)) (omega arith)));
        value = λ ts. rw h (ap Some (usable_value fault b p ts));
      }

  pub unused : eqb flag 1 ≡ false → p ≤ 8 * length b → Used None p
  unused h g =
      record {
        put = λ ts. ts;
        passed = no_passed (eqb flag 1) _ h (nothing (stamp_lines (time_name fault)) g);
        value = λ ts. rw h;
      }

  abbrev pub Unused : Refusal → Type 1
  Unused r = Stopped b (usable fault (time_name fault) flag) p r

  -- what `enough` answered, of a time whose flag is set
  module _ {r : Result (Unit {0}) Refusal} (h : eqb flag 1 ≡ true) (c : r ≡ enough_at b p fault 56) where
    pub used_there : {o : Unit {0}} → Place b p → r ≡ Ok o → Used (Some (usable_of b p)) (p + 56)
    used_there l m = let k = enough_room b p 56 fault c m l in used h (omega (arith, k.fits))

    pub used_short : {f : Refusal} → r ≡ Err f → Unused f
    used_short m =
        yes_stopped (eqb flag 1) (λ s. s) h
        (record {
          stop =
              λ e s found fail. sym (groups.short b e p found fail fault 56 (stamp (time_name fault) s) c m refl);
        })

  abbrev pub Cases : Type 1
  Cases = Outcome b (usable fault (time_name fault) flag) p Used

  pub cases : Place b p → Cases
  cases l = go (eqb flag 1) refl (enough_at b p fault 56) refl
    where
      go : (t : Bool) → eqb flag 1 ≡ t → (r : Result (Unit {0}) Refusal) → r ≡ enough_at b p fault 56 → Cases
      go true h (Ok o) c = there _ _ (used_there h c l refl)
      go true h (Err f) c = cut f (used_short h c refl)
      go false h r c = there _ _ (unused h l.within)

  -- what an answer of `read_usable` tells
  module _ {r : Result (Found (Option UsableTime)) Refusal} (l : Place b p) (e : r ≡ usable_at b fault flag p) where
    pub used_told : {x : Found (Option UsableTime)} → r ≡ Ok x → Used x.value x.next
    unfolding usable_at
    used_told m = told _ told_answer (cases l) e m

    pub used_stopped : {f : Refusal} → r ≡ Err f → Unused f
    unfolding usable_at
    used_stopped m = stopped _ told_answer (cases l) e m
