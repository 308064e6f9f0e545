-- What comes of the metadata, by its flags and by the bits that are there.
-- Assumes nothing.
use Prim.Native.Nat.{ℕ, ◌+◌, ◌*◌, ◌-◌, ◌≤◌}
use mathlib.Core.Path.{◌≡◌, refl, sym, ap, ◌∙◌}
use mathlib.Core.Bool.{Bool, true, false, cond}
use mathlib.Core.List.{List, [], ◌∷◌, ◌++◌}
use native.Mathlib.Omega.{arith}
use lib.Dec.{eqb}
use lib.ListN.{length}
use Rattle.std.specs.Prelude.{Option, Some, None, Result, Ok, Err}
use Rattle.format.specs.Syntax.{Name, Syntax, Field}
use Rattle.format.specs.Tables.{usable}
use Rattle.format.specs.ByName.{first_by, number_in, the}
use Rattle.format.specs.declared.Refusal.{Refusal}
use Rattle.format.specs.declared.Found.{Found}
use Rattle.format.specs.declared.Fault.TheVariants.{MetadataCut, UsableStartCut, UsableStopCut}
use Rattle.format.proofs.GroupLaws.{Line, plainly, fields, stand}
use Rattle.format.proofs.ListLaws.{Other}
use Rattle.bits.specs.Read.{Place}
use Rattle.bit_reader.specs.Readers.{enough_at}
use Rattle.bit_reader.proofs.Reading as groups
use Rattle.bit_reader.proofs.Reading.{enough_room}
use Rattle.passing.proofs.Passing.{stamp_lines, first_finds, Passed, Stopped, nothing, group, both, then_stopped, stopped_before, enough, enough_stopped, yes_passed, no_passed, yes_stopped, Told, Outcome, there, cut, told_answer, told, stopped}
use Rattle.metadata.specs.Metadata.{usable_by, maybe_usable, metadata_by, maybe_metadata, optional, metadata_at, metadata_of}
use Rattle.metadata.specs.declared.UsableTime.{UsableTime}
use Rattle.metadata.specs.declared.PositionV3Metadata.{PositionV3Metadata}
use Rattle.metadata.proofs.Times as times
use Rattle.metadata.proofs.Times.{Used, Unused}

-- the lines in front of the usable times, and all of them
abbrev fixed_lines : List Line
fixed_lines =
    stamp_lines "total_start_time" ++ (stamp_lines "total_stop_time"
    ++ (plainly "metadata.reserved_zero_future_use" 1 ∷ plainly "interpolation_flag" 1 ∷ plainly "interpolation_type"
    3 ∷ plainly "interpolation_degree" 3 ∷ []))

abbrev pub metadata_lines : List Line
metadata_lines = fixed_lines ++ (stamp_lines "usable_start_time" ++ stamp_lines "usable_stop_time")

-- the stop's own fields behind the start's
stop_behind : {b : List ℕ} {f : Syntax → Syntax} {p q : ℕ} {put : List Field → List Field}
    → Passed b f (stamp_lines "usable_start_time") p q put
    → (ts : List Field) → usable_by "usable_stop_time" (put ts) ≡ usable_by "usable_stop_time" ts
stop_behind {put = put} one ts =
    λ i. record {
      year = skip "usable_stop_time_year" (refl, (refl, (refl, (refl, tt)))) i;
      day = skip "usable_stop_time_day" (refl, (refl, (refl, (refl, tt)))) i;
      day_fraction = skip "usable_stop_time_day_fraction" (refl, (refl, (refl, (refl, tt)))) i;
      reserved_zero_future_use = skip "usable_stop_time_reserved_zero_future_use" (refl, (refl, (refl, (refl, tt)))) i;
    }
  where
    skip : (nm : Name) → Other nm (stamp_lines "usable_start_time") → the nm (put ts) ≡ the nm ts
    skip nm o = one.finds nm (λ _ us. the nm us) (first_finds number_in 0 nm) o ts

module _ (b : List ℕ) (flag start stop p : ℕ) where
  abbrev pub Block : Option PositionV3Metadata → ℕ → Type 1
  Block m q = Told b (optional flag start stop) metadata_lines (maybe_metadata flag start stop) p m q

  -- its flag set, and all of it there
  block : {t u : Option UsableTime} {q r : ℕ} → eqb flag 1 ≡ true → 120 ≤ 8 * length b - p
      → Used b UsableStartCut start (p + 120) t q → Used b UsableStopCut stop q u r
      → Block (Some (metadata_of b p t u)) r
  unfolding metadata_by first_by
  block {t} {u} h g one two =
      record {
        put = λ ts. stand b p 0 fixed_lines ++ one.put (two.put ts);
        passed = yes_passed (eqb flag 1) (λ s. s) h
            (enough MetadataCut 120 g (both (group fixed_lines (omega arith)) (both one.passed two.passed)));
        value = λ ts. rw h (ap Some (made ts));
      }
    where
      made : (ts : List Field) → metadata_by start stop
          (stand b p 0 fixed_lines ++ one.put (two.put ts)) ≡ metadata_of b p t u
      made ts =
          let d : maybe_usable "usable_stop_time" stop (one.put (two.put ts)) ≡ u =
          ap (λ (x : UsableTime). cond (eqb stop 1) (Some x) None) (stop_behind one.passed (two.put ts))
          ∙ two.value ts in
          let k = metadata_of b p t u in
          λ i. record {
            total_start_time_year = k.total_start_time_year;
            total_start_time_day = k.total_start_time_day;
            total_start_time_day_fraction = k.total_start_time_day_fraction;
            total_stop_time_year = k.total_stop_time_year;
            total_stop_time_day = k.total_stop_time_day;
            total_stop_time_day_fraction = k.total_stop_time_day_fraction;
            interpolation_flag = k.interpolation_flag;
            interpolation_type = k.interpolation_type;
            interpolation_degree = k.interpolation_degree;
            usable_start_time = one.value (two.put ts) i;
            usable_stop_time = d i;
            total_start_time_reserved_zero_future_use = k.total_start_time_reserved_zero_future_use;
            total_stop_time_reserved_zero_future_use = k.total_stop_time_reserved_zero_future_use;
            reserved_zero_future_use = k.reserved_zero_future_use;
          }

  pub none : (eqb flag 1 ≡ false) → p ≤ 8 * length b → Block None p
  none h g =
      record {
        put = λ ts. ts;
        passed = no_passed (eqb flag 1) _ h (nothing metadata_lines g);
        value = λ ts. rw h;
      }

  -- refused, at its own fields and at each usable time
  abbrev pub Halted : Refusal → Type 1
  Halted r = Stopped b (optional flag start stop) p r

  -- what `enough` answered of the fixed fields, where the flag is set
  module _ {r : Result (Unit {0}) Refusal} (h : eqb flag 1 ≡ true) (c : r ≡ enough_at b p MetadataCut 120) where
    pub block_short : {f : Refusal} → r ≡ Err f → Halted f
    block_short m =
        yes_stopped (eqb flag 1) (λ s. s) h
        (record {
          stop =
              λ e s found fail. sym (groups.short b e p found fail MetadataCut 120
              (fields fixed_lines (usable UsableStartCut "usable_start_time" start
              (usable UsableStopCut "usable_stop_time" stop s))) c m refl);
        })

    -- and of each usable time's own
    module _ {o : Unit {0}} (l : Place b p) (m : r ≡ Ok o) where
      pub behind_fixed : Place b (p + 120)
      behind_fixed = let k = enough_room b p 120 MetadataCut c m l in record { short = k.short; within = k.fits }

      pub start_short : {f : Refusal} → Unused b UsableStartCut start (p + 120) f → Halted f
      start_short s =
          let k = enough_room b p 120 MetadataCut c m l in
          yes_stopped (eqb flag 1) (λ s. s) h
          (enough_stopped MetadataCut 120 (omega (arith, k.fits))
          (then_stopped (group fixed_lines (omega (arith, k.fits)))
          (stopped_before (usable UsableStopCut "usable_stop_time" stop) s)))

      module _ {t : Option UsableTime} {q : ℕ} (one : Used b UsableStartCut start (p + 120) t q) where
        pub stop_short : {f : Refusal} → Unused b UsableStopCut stop q f → Halted f
        stop_short s =
            let k = enough_room b p 120 MetadataCut c m l in
            yes_stopped (eqb flag 1) (λ s. s) h
            (enough_stopped MetadataCut 120 (omega (arith, k.fits))
            (then_stopped (both (group fixed_lines (omega (arith, k.fits))) one.passed) s))

        pub all_there : {u : Option UsableTime} {n : ℕ} → Used b UsableStopCut stop q u n
            → Block (Some (metadata_of b p t u)) n
        all_there two = let k = enough_room b p 120 MetadataCut c m l in block h (omega (arith, k.fits)) one two

  abbrev pub Cases : Type 1
  Cases = Outcome b (optional flag start stop) p Block

  -- the usable times, behind fixed fields that are there
  module _ {r : Result (Unit {0}) Refusal} {o : Unit {0}} (l : Place b p) (h : eqb flag 1 ≡ true)
      (c : r ≡ enough_at b p MetadataCut 120) (m : r ≡ Ok o) where
    last : {t : Option UsableTime} {q : ℕ} → Used b UsableStartCut start (p + 120) t q
        → times.Cases b UsableStopCut stop q → Cases
    last one (there v q two) = there _ _ (all_there h c l m one two)
    last one (cut f s) = cut f (stop_short h c l m one s)

    first : times.Cases b UsableStartCut start (p + 120) → Cases
    first (there v q one) =
        last one (times.cases b UsableStopCut stop q (record { short = l.short; within = one.passed.within }))
    first (cut f s) = cut f (start_short h c l m s)

  pub cases : Place b p → Cases
  cases l = go (eqb flag 1) refl (enough_at b p MetadataCut 120) refl
    where
      go : (t : Bool) → eqb flag 1 ≡ t → (r : Result (Unit {0}) Refusal) → r ≡ enough_at b p MetadataCut 120 → Cases
      go true h (Ok o) c = first l h c refl (times.cases b UsableStartCut start (p + 120) (behind_fixed h c l refl))
      go true h (Err f) c = cut f (block_short h c refl)
      go false h r c = there _ _ (none h l.within)

  -- what an answer of `read_metadata` tells
  module _ {r : Result (Found (Option PositionV3Metadata)) Refusal} (l : Place b p)
      (e : r ≡ metadata_at b flag start stop p) where
    pub block_told : {x : Found (Option PositionV3Metadata)} → r ≡ Ok x → Block x.value x.next
    unfolding metadata_at
    block_told m = told _ told_answer (cases l) e m

    pub block_stopped : {f : Refusal} → r ≡ Err f → Halted f
    unfolding metadata_at
    block_stopped m = stopped _ told_answer (cases l) e m
