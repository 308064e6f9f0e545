-- What comes of the covariance, by its flag and by the bits that are there.
-- Assumes nothing.
use Prim.Native.Nat.{ℕ, ◌+◌, ◌*◌, ◌-◌, ◌≤◌}
use mathlib.Core.Path.{◌≡◌, refl, sym, ap, ◌∙◌}
use mathlib.Core.Bool.{Bool, true, false}
use mathlib.Core.List.{List, [], ◌++◌}
use native.Mathlib.Omega.{arith}
use lib.Dec.{eqb}
use lib.ListN.{length}
use Rattle.std.specs.Prelude.{Option, Some, None, Result, Ok, Err}
use Rattle.format.specs.Syntax.{Field}
use Rattle.format.specs.Tables.{u, times, stamp}
use Rattle.format.specs.ByName.{first_by}
use Rattle.format.specs.At.{found_at}
use Rattle.format.specs.declared.Refusal.{Refusal}
use Rattle.format.specs.declared.Found.{Found}
use Rattle.format.specs.declared.Fault.TheVariants.{CovarianceCut}
use Rattle.format.proofs.GroupLaws.{Line, stand}
use Rattle.format.proofs.ListLaws.{many}
use Rattle.bits.specs.Read.{Place}
use Rattle.bit_reader.specs.Readers.{enough_at}
use Rattle.bit_reader.proofs.Reading as groups
use Rattle.bit_reader.proofs.Reading.{enough_room}
use Rattle.passing.proofs.Passing.{stamp_lines, Passed, Stopped, nothing, group, both, enough, yes_passed, no_passed, yes_stopped, several, passed_end, Outcome, there, cut, told, stopped}
use Rattle.ephemeris.specs.Ephemeris.{closing, covariance_by, maybe_covariance, covariance_at, covariance_of, all_by}
use Rattle.ephemeris.specs.declared.CovarianceData.{CovarianceData}
use Rattle.ephemeris.proofs.Words.{element_lines, all_words}

abbrev pub closing_lines : List Line
closing_lines = stamp_lines "covariance_epoch" ++ element_lines

-- what the covariance's own fields make, where nothing stands behind them
abbrev put : List ℕ → ℕ → List Field → List Field
put b p ts = stand b p 0 (stamp_lines "covariance_epoch") ++ many b (p + 56) 21 element_lines ts

own : (b : List ℕ) (p : ℕ) → covariance_by (put b p []) ≡ covariance_of b p
unfolding first_by all_by
own b p =
    let k = covariance_of b p in
    λ i. record {
      covariance_epoch_year = k.covariance_epoch_year;
      covariance_epoch_day = k.covariance_epoch_day;
      covariance_epoch_day_fraction = k.covariance_epoch_day_fraction;
      covariance_elements = all_words b (p + 56) 21 i;
      covariance_epoch_reserved_zero_future_use = k.covariance_epoch_reserved_zero_future_use;
    }

module _ (b : List ℕ) (flag p : ℕ) where
  -- The covariance c ends at q. As its elements are all the fields of their name, it is the last part.
  pub record Closed (c : Option CovarianceData) (q : ℕ) : Type 1 where
    pub put : List Field → List Field
    pub passed : Passed b (closing flag) closing_lines p q put
    pub value : maybe_covariance flag (put []) ≡ c

  closed : eqb flag 1 ≡ true → 728 ≤ 8 * length b - p → Closed (Some (covariance_of b p)) (p + 728)
  closed h g =
      let z : p + 728 ≡ p + 56 + 672 = omega arith in
      record {
        put = put b p;
        passed = rw z
            (yes_passed (eqb flag 1) (λ s. s) h
            (enough CovarianceCut 728 g
            (both (group (stamp_lines "covariance_epoch") (omega arith))
            (several element_lines (u "covariance_elements" 32) (p + 56) 21 (omega arith)
            (λ q l. group element_lines l)))));
        value = rw h (ap Some (own b p));
      }

  pub unclosed : eqb flag 1 ≡ false → p ≤ 8 * length b → Closed None p
  unclosed h g =
      record {
        put = λ ts. ts;
        passed = no_passed (eqb flag 1) _ h (nothing closing_lines g);
        value = rw h;
      }

  abbrev pub Halted : Refusal → Type 1
  Halted r = Stopped b (closing flag) p r

  -- what `enough` answered, where the flag is set
  module _ {r : Result (Unit {0}) Refusal} (h : eqb flag 1 ≡ true) (c : r ≡ enough_at b p CovarianceCut 728) where
    pub closed_there : {o : Unit {0}} → Place b p → r ≡ Ok o → Closed (Some (covariance_of b p)) (p + 728)
    closed_there l m = let k = enough_room b p 728 CovarianceCut c m l in closed h (omega (arith, k.fits))

    pub closed_short : {f : Refusal} → r ≡ Err f → Halted f
    closed_short m =
        yes_stopped (eqb flag 1) (λ s. s) h
        (record {
          stop =
              λ e s found fail. sym (groups.short b e p found fail CovarianceCut 728
              (stamp "covariance_epoch" (times 21 (u "covariance_elements" 32) s)) c m refl);
        })

  abbrev Cases : Type 1
  Cases = Outcome b (closing flag) p Closed

  cases : Place b p → Cases
  cases l = go (eqb flag 1) refl (enough_at b p CovarianceCut 728) refl
    where
      go : (t : Bool) → eqb flag 1 ≡ t → (r : Result (Unit {0}) Refusal) → r ≡ enough_at b p CovarianceCut 728 → Cases
      go true h (Ok o) c = there _ _ (closed_there h c l refl)
      go true h (Err f) c = cut f (closed_short h c refl)
      go false h r c = there _ _ (unclosed h l.within)

  -- what an answer of `read_covariance` tells
  pub closed_answer : (c : Option CovarianceData) (q : ℕ) → Closed c q → covariance_at b flag p ≡ found_at c q
  unfolding covariance_at
  closed_answer c q t =
      passed_end t.passed 0 (λ ts n. found_at (maybe_covariance flag ts) n) Err
      ∙ ap (λ (z : Option CovarianceData). found_at z q) t.value

  module _ {r : Result (Found (Option CovarianceData)) Refusal} (l : Place b p) (e : r ≡ covariance_at b flag p) where
    pub closed_told : {x : Found (Option CovarianceData)} → r ≡ Ok x → Closed x.value x.next
    unfolding covariance_at
    closed_told m = told (maybe_covariance flag) closed_answer (cases l) e m

    pub closed_stopped : {f : Refusal} → r ≡ Err f → Halted f
    unfolding covariance_at
    closed_stopped m = stopped (maybe_covariance flag) closed_answer (cases l) e m
