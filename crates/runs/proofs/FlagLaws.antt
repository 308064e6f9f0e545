-- A flag: its bit, and what a description tests.
-- Assumes nothing.
use Prim.Native.Nat.{ℕ, zero, suc, ◌<◌}
use mathlib.Core.Path.{◌≡◌, refl}
use mathlib.Core.Bool.{Bool, true, false}
use native.Mathlib.Omega.{arith}
use lib.Dec.{eqb}
use Rattle.std.specs.Int.{from_bool}

pub flag_tested : (x : Bool) {t : Bool} → x ≡ t → eqb (from_bool x) 1 ≡ t
flag_tested true h = h
flag_tested false h = h

pub flag_is : (v : ℕ) → v < 2 → from_bool (eqb v 1) ≡ v
flag_is zero h = refl
flag_is (suc zero) h = refl
flag_is (suc (suc n)) h = absurd (omega arith)
