-- The number of a number's type is the number itself, as far as three bits go.
-- Assumes nothing.
use Prim.Native.Nat.{ℕ, ◌%◌}
use mathlib.Core.Path.{◌≡◌, refl, sym}
use mathlib.Core.Bool.{Bool, true, false}
use lib.Dec.{eqb}
use borrow.Author.Tests.{eqb-true}
use Rattle.metadata.specs.Metadata.{interpolation, interpolation_number}

pub number_back : (v : ℕ) → interpolation_number (interpolation v) ≡ v % 8
unfolding interpolation interpolation_number
number_back v = go (eqb m 0) refl (eqb m 1) refl (eqb m 2) refl (eqb m 3) refl (eqb m 4) refl
  where
    m : ℕ
    m = v % 8

    go : (a : Bool) → eqb m 0 ≡ a → (b : Bool) → eqb m 1 ≡ b → (c : Bool) → eqb m 2 ≡ c → (d : Bool) → eqb m 3 ≡ d
        → (e : Bool) → eqb m 4 ≡ e
        → interpolation_number (interpolation v) ≡ m
    go true p b q c r d s e t = rw p (sym (eqb-true m 0 p))
    go false p true q c r d s e t = rw (p, q) (sym (eqb-true m 1 q))
    go false p false q true r d s e t = rw (p, q, r) (sym (eqb-true m 2 r))
    go false p false q false r true s e t = rw (p, q, r, s) (sym (eqb-true m 3 s))
    go false p false q false r false s true t = rw (p, q, r, s, t) (sym (eqb-true m 4 t))
    go false p false q false r false s false t = rw (p, q, r, s, t)
