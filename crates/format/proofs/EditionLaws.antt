-- S-18: where there is no plan, the editions' ledgers are the same but for the version byte.
-- Assumes nothing.
use mathlib.Core.Path.{◌≡◌, refl, sym, ap, ap₂, ◌∙◌}
use mathlib.Core.Bool.{Bool}
use mathlib.Core.List.{List, [], ◌∷◌, ◌++◌}
use Prim.Native.Nat.{ℕ, zero, suc, ◌<◌}
use native.Mathlib.Omega.{arith}
use lib.ListN.{length, take, drop}
use Rattle.format.specs.declared.Fault.TheVariants.{UsableStartCut, UsableStopCut}
use Rattle.format.specs.declared.Fault.{Fault}
use Rattle.format.specs.Digits.{digits, Below}
use Rattle.format.specs.Syntax.{Name, Syntax, Field, got}
use Rattle.format.specs.declared.Edition.{Edition}
use Rattle.format.specs.declared.Edition.TheVariants.{First, Second}
use Rattle.format.specs.Tables.{times, obsolescent, new, delivery, position, fragment, association, hopping, usable, metadata, ephemeris, covariance, ephemerides, position3}
use Rattle.format.specs.Ledger.{ledger}
use Rattle.format.specs.Whole.{Layout, sole, many, opaque, layout, Table, ledgers, content_of, ledger_of}
use Rattle.format.specs.Calls.{Wrote}
use Rattle.format.proofs.Good.{Good, g_end, g_field, g_yes, g_no, g_need, g_most, g_slots, g_plan, g_raw, NoPlan}
use Rattle.format.proofs.FineTables.{planless_header}
use Rattle.format.proofs.EntryLaws.{AllGood}
use Rattle.format.proofs.TableLaws.{fine_layout, GoodTable, good_one, good_list, good_raw}
use Rattle.format.proofs.Demand.{accepted_good}
use Rattle.format.proofs.CallLaws.{wrote_accepted}

-- ---- fields that are no plan's

pub ledger_same : {l i : Bool} {s : Syntax} {ts : List Field} (ed : Edition) → NoPlan s → Good l i s ts → ledger ed ts ≡ ledger First ts
unfolding ledger
ledger_same ed p g_end = refl
ledger_same ed p (g_field g nm w k v _ _ r) = rw (ledger_same ed (p v) r)
ledger_same ed p (g_yes r) = ledger_same ed p.0 r
ledger_same ed p (g_no r) = ledger_same ed p.1 r
ledger_same ed p (g_need a w _ r) = ledger_same ed p r
ledger_same ed p (g_most a v m _ r) = ledger_same ed p r
ledger_same ed p (g_slots nm a m bs _ _ r) = rw (ledger_same ed p r)
ledger_same ed p (g_plan nm v fs _ r) = absurd p
ledger_same ed p (g_raw nm bs _ _) = refl

ledgers_same : (s : Syntax) (ed : Edition) (es : List (List Field)) → NoPlan s → AllGood s es → ledgers ed es ≡ ledgers First es
unfolding ledgers
ledgers_same s ed [] p g = refl
ledgers_same s ed (ts ∷ es) p g = ap₂ (λ (x y : List ℕ). x ++ y) (ledger_same ed p g.0) (ledgers_same s ed es p g.1)

-- ---- the tables that have none

planless_times : (n : ℕ) (f : Syntax → Syntax) → ((r : Syntax) → NoPlan r → NoPlan (f r)) → (r : Syntax) → NoPlan r → NoPlan (times n f r)
planless_times zero f k r h = h
planless_times (suc n) f k r h = k (times n f r) (planless_times n f k r h)

planless_position : NoPlan position
unfolding position
planless_position = omega arith

planless_obsolescent : NoPlan obsolescent
planless_obsolescent = λ _ n. planless_times n _ (λ r h _ _ _ _. h) _ tt

planless_new : NoPlan new
planless_new = λ _ n. planless_times n _ (λ r h _ _ _ _. h) _ planless_obsolescent

planless_delivery : NoPlan delivery
planless_delivery = λ n. planless_times n _ (λ r h _. h) _ planless_new

planless_fragment : NoPlan fragment
unfolding fragment
planless_fragment = λ _ _ _. (λ _ _ _ _ _ _. planless_delivery, λ _. planless_delivery)

planless_association : NoPlan association
unfolding association
planless_association = omega arith

-- the fields within a plan have none either
pub planless_hopping : NoPlan hopping
planless_hopping = λ _ m _ _ _ _ _ _. (λ _ _ _ _ _ _. tt, (λ _ _ _ _. tt, (λ _ _ _ _ _ _ _ _ _ _ _ _. tt, tt)))

planless_covariance : (cov : ℕ) → NoPlan (covariance cov)
planless_covariance cov = omega arith

planless_ephemeris : (accel : ℕ) (r : Syntax) → NoPlan r → NoPlan (ephemeris accel r)
planless_ephemeris accel r h = (λ _ _ _ _ _ _ _ _ _ _ _ _ _. h, λ _ _ _ _ _ _ _ _ _ _. h)

planless_ephemerides : (accel cov : ℕ) → NoPlan (ephemerides accel cov)
planless_ephemerides accel cov = λ n. planless_times n (ephemeris accel) (planless_ephemeris accel) (covariance cov) (planless_covariance cov)

planless_usable : (number : Fault) (nm : Name) (flag : ℕ) (r : Syntax) → NoPlan r → NoPlan (usable number nm flag r)
planless_usable number nm flag r h = (λ _ _ _ _. h, h)

planless_metadata : (start stop : ℕ) (r : Syntax) → NoPlan r → NoPlan (metadata start stop r)
planless_metadata start stop r h =
    let s : NoPlan (usable UsableStopCut "usable_stop_time" stop r) = planless_usable UsableStopCut "usable_stop_time" stop r h in
    λ _ _ _ _ _ _ _ _ _ _ _ _. planless_usable UsableStartCut "usable_start_time" start (usable UsableStopCut "usable_stop_time" stop r) s

planless_position3 : NoPlan position3
unfolding position3
planless_position3 = λ _ _ meta start stop accel cov. let e = planless_ephemerides accel cov in (planless_metadata start stop (ephemerides accel cov) e, e)

abbrev pub Planless : Layout → Type 0
Planless (sole s) = NoPlan s
Planless (many h m s) = NoPlan h × NoPlan s
Planless opaque = Unit {0}

pub planless_layout : (id : ℕ) → (id ≡ 3 → ⊥) → Planless (layout id)
planless_layout zero h = (tt, planless_position)
planless_layout (suc zero) h = (tt, planless_fragment)
planless_layout (suc (suc zero)) h = planless_association
planless_layout (suc (suc (suc zero))) h = absurd (h refl)
planless_layout (suc (suc (suc (suc zero)))) h = (planless_header, planless_position3)
planless_layout (suc (suc (suc (suc (suc n))))) h = tt

pub content_same : {l : Layout} {t : Table} (ed : Edition) → Planless l → GoodTable l t → content_of ed t ≡ content_of First t
unfolding content_of
content_same ed p (good_one g) = ledger_same ed p g
content_same ed p (good_list {s = s} {es = es} g gs) = ap₂ (λ (x y : List ℕ). x ++ (digits 256 2 (length es) ++ y)) (ledger_same ed p.0 g) (ledgers_same s ed es p.1 gs)
content_same ed p (good_raw h) = refl

-- "Other ids change only the version byte": the one at place 2
pub other_ids : {id : ℕ} {b out out' l l' : List ℕ} → (id ≡ 3 → ⊥) → id < 256 → Below 256 b → Wrote First id b out l → Wrote Second id b out' l'
    → (take 2 l ≡ take 2 l') × (drop 3 l ≡ drop 3 l')
unfolding ledger_of digits
other_ids {id} {b} {l = l} {l'} h hi hb w w' =
    let o = wrote_accepted hi hb w in
    let o' = wrote_accepted hi hb w' in
    let t : Table = o.0 in
    let t' : Table = o'.0 in
    let e : got t [] ≡ got t' [] = sym o.1.reads ∙ o'.1.reads in
    let s : t ≡ t' = cc in
    let c : content_of Second t' ≡ content_of First t = ap (content_of Second) (sym s) ∙ content_same Second (planless_layout id h) (accepted_good (fine_layout id) o.1).0 in
    (rw (← o.2, ← o'.2, c), rw (← o.2, ← o'.2, c))
