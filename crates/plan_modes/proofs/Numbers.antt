-- A mode gives its number back.
-- Assumes nothing.
use Prim.Native.Nat.{ℕ, ◌%◌}
use mathlib.Core.Path.{◌≡◌, refl}
use mathlib.Core.Bool.{Bool, true, false, cond}
use lib.Dec.{eqb}
use borrow.Author.Tests.{eqb-true}
use Rattle.plan_modes.specs.Modes.{plan_mode, plan_mode_number}
use Rattle.plan_modes.specs.declared.TimePlanMode.TheVariants.{DwellOnTime, Bitmap, GridRevisitSleep, Reserved}

pub number_back : (v : ℕ) → plan_mode_number (plan_mode v) ≡ v % 4
unfolding plan_mode plan_mode_number
number_back v = go0 (eqb (v % 4) 0) refl
  where
    m : ℕ
    m = v % 4

    go2 : (t : Bool) → eqb m 2 ≡ t → plan_mode_number (cond t GridRevisitSleep (Reserved m)) ≡ m
    go2 true h = cc (eqb-true m 2 h)
    go2 false h = refl

    go1 : (t : Bool) → eqb m 1 ≡ t → plan_mode_number (cond t Bitmap (cond (eqb m 2) GridRevisitSleep (Reserved m))) ≡ m
    go1 true h = cc (eqb-true m 1 h)
    go1 false h = go2 (eqb m 2) refl

    go0 : (t : Bool) → eqb m 0 ≡ t
        → plan_mode_number (cond t DwellOnTime
        (cond (eqb m 1) Bitmap (cond (eqb m 2) GridRevisitSleep (Reserved m)))) ≡ m
    go0 true h = cc (eqb-true m 0 h)
    go0 false h = go1 (eqb m 1) refl
