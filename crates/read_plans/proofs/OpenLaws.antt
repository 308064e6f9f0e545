-- A plan by the edition: its length gone over, and what is within it.
-- Assumes nothing.
use Prim.Native.Nat.{ℕ, ◌+◌, ◌-◌, ◌*◌, ◌/◌, ◌≤◌}
use mathlib.Core.Path.{◌≡◌, subst}
use mathlib.Core.Bool.{Bool, true}
use mathlib.Core.List.{List, [], ◌∷◌}
use lib.ListN.{length}
use Rattle.std.specs.Prelude.{Result, Ok, Err}
use Rattle.format.specs.Digits.{digits, bits_of, splice}
use Rattle.format.specs.Syntax.{Name, unsigned, Syntax, end, field, plan}
use Rattle.format.specs.declared.Edition.{Edition}
use Rattle.format.specs.declared.Edition.TheVariants.{First, Second}
use Rattle.format.specs.Tables.{hopping}
use Rattle.format.specs.declared.Refusal.{Refusal}
use Rattle.runs.specs.Lines.{run, sign_of, width_of, size_of}
use Rattle.read_runs.specs.declared.step.Step.{Step}
use Rattle.read_runs.specs.Came.{Way, way_of, Came, Arrived, Laid, LaidFrom}
use Rattle.read_runs.proofs.CameLaws.{then}
use Rattle.read_runs.proofs.Moved.{run_moved}
use Rattle.read_plans.specs.Taken.{Taken, AheadTo, Opened, Closed}
use Rattle.read_plans.proofs.TakenLaws.{plan_no}
use Rattle.read_plans.proofs.KeptLaws.{within_no}

-- a length that was read went over its 12 bits and 2 bytes
pub ahead_of : {l out out' : List ℕ} {place at : ℕ} (r : Result Step Refusal) → place ≤ length l
    → ((way : Way) (nms : List Name) (k : ℕ → Syntax) → Laid way l (run nms 0 (12 ∷ []) k) place at out k out' r) → AheadTo place at r
unfolding sign_of width_of size_of
ahead_of (Ok x) h y = run_moved (12 ∷ []) h y
ahead_of (Err f) h y = tt

-- the same in a ledger that is known by another name
pub opened_in : {ed : Edition} {m l : List ℕ} {p a : ℕ} {out out' : List ℕ} {r : Result Step Refusal} → m ≡ l → Opened ed m p a out out' r → Opened ed l p a out out' r
opened_in {ed} {p = p} {a} {out} {out'} {r} e o = subst (λ (z : List ℕ). Opened ed z p a out out' r) e o

pub closed_in : {b : Bool} {m l : List ℕ} {p₀ a₀ p a : ℕ} {out out' : List ℕ} {r : Result Step Refusal} → m ≡ l → Closed b m p₀ a₀ p a out out' r → Closed b l p₀ a₀ p a out out' r
closed_in {b} {p₀ = p₀} {a₀} {p} {a} {out} {out'} {r} e c = subst (λ (z : List ℕ). Closed b z p₀ a₀ p a out out' r) e c

-- the length that is stored in the first edition, by where its fields start
pub laid_length : (a₀ a₁ a₂ : ℕ) (out out' : List ℕ) → a₁ ≡ a₀ + 12 → (a₀ + 12 ≤ 8 * length out → bits_of out' ≡ splice (bits_of out) a₀ (digits 2 12 ((a₂ - a₁) / 8)))
    → a₀ + 12 ≤ 8 * length out → bits_of out' ≡ splice (bits_of out) a₀ (digits 2 12 ((a₂ - (a₀ + 12)) / 8))
laid_length a₀ a₁ a₂ out out' e h = subst (λ (u : ℕ). a₀ + 12 ≤ 8 * length out → bits_of out' ≡ splice (bits_of out) a₀ (digits 2 12 ((a₂ - u) / 8))) e h

module _ {l : List ℕ} {p₀ a₀ : ℕ} {out₀ out₁ : List ℕ} where
  -- the length is refused
  pub length_no : {s : Syntax} {place at : ℕ} {out out₂ : List ℕ} {f : Refusal} {r : Result Step Refusal} (ed : Edition) (b : Bool)
      → Came (way_of ed b) l s place at out (plan "plan_length" hopping) p₀ a₀ out₀ → r ≡ Err f → Opened ed l p₀ a₀ out₀ out₁ (Err f)
      → Taken (way_of ed b) l s place at out out₂ r
  length_no First b x q o = absurd o.to.0
  length_no Second b x q o = within_no x q (o.to.0 (way_of Second b) hopping)

  module _ {y : Step} where
    -- the first edition went over nothing
    pub opened_first : Opened First l p₀ a₀ out₀ out₁ (Ok y) → (y.at ≡ a₀ + 12) × (y.place ≡ p₀) × (out₁ ≡ out₀)
    opened_first o = (o.to.0.1.0, o.to.0.1.1.0, o.to.1)

    -- the ledger is the same
    pub opened_same : (ed : Edition) → Opened ed l p₀ a₀ out₀ out₁ (Ok y) → y.ledger.now ≡ l
    opened_same First o = o.to.0.0
    opened_same Second o = (o.to.0 (way_of Second true) end).to.same

    -- a field within the plan is refused
    pub inner_no : {s : Syntax} {place at : ℕ} {out out₂ out₃ : List ℕ} {j : ℕ → Syntax} {f : Refusal} {r : Result Step Refusal} (ed : Edition) (b : Bool)
        → Came (way_of ed b) l s place at out (plan "plan_length" hopping) p₀ a₀ out₀ → Opened ed l p₀ a₀ out₀ out₁ (Ok y) → r ≡ Err f
        → ((way : Way) → LaidFrom way y hopping out₁ j out₂ (Err f)) → Taken (way_of ed b) l s place at out out₃ r
    inner_no {out₂ = out₂} {j = j} {f} First b x o e h =
        let z = opened_first o in
        plan_no x e
        (subst (λ (u : ℕ). Laid (way_of First b) l hopping u y.at out₀ j out₂ (Err f)) z.1
        (subst (λ (u : List ℕ). Laid (way_of First b) l hopping y.place y.at u j out₂ (Err f)) z.2
        (subst (λ (u : List ℕ). Laid (way_of First b) u hopping y.place y.at out₁ j out₂ (Err f)) (opened_same First o) (h (way_of First b)))))
    inner_no Second b x o e h = within_no x e (then (o.to.0 (way_of Second b) hopping).to (h (way_of Second b)))

    -- the fields that are laid: in the second edition behind their length, in the first behind its open bits
    module _ {x : Step} {out₂ : List ℕ} (h : (way : Way) → LaidFrom way y hopping out₁ (λ _. end) out₂ (Ok x)) where
      pub inner_second : (b : Bool) → Opened Second l p₀ a₀ out₀ out₁ (Ok y)
          → Arrived (way_of Second b) l (field unsigned "plan_length" 12 (λ _. hopping)) p₀ a₀ out₀ end x out₂
      inner_second b o = (then (o.to.0 (way_of Second b) hopping).to (h (way_of Second b))).to

      pub inner_first : (b : Bool) → Opened First l p₀ a₀ out₀ out₁ (Ok y) → Arrived (way_of First b) l hopping p₀ (a₀ + 12) out₀ end x out₂
      inner_first b o =
          let z = opened_first o in
          subst (λ (u : ℕ). Arrived (way_of First b) l hopping u (a₀ + 12) out₀ end x out₂) z.1
          (subst (λ (u : ℕ). Arrived (way_of First b) l hopping y.place u out₀ end x out₂) z.0
          (subst (λ (u : List ℕ). Arrived (way_of First b) l hopping y.place y.at u end x out₂) z.2
          (subst (λ (u : List ℕ). Arrived (way_of First b) u hopping y.place y.at out₁ end x out₂) (opened_same First o) (h (way_of First b)).to)))
