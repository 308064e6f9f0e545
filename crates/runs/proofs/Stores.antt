-- What storing leaves in a buffer, by whether there is room.
-- Assumes nothing.
use Prim.Native.Nat.{ℕ, ◌+◌, ◌≤◌, ◌<◌}
use mathlib.Core.Path.{◌≡◌, refl}
use mathlib.Core.List.{List}
use native.Mathlib.Omega.{arith}
use lib.Dec.{leb}
use lib.ListN.{length}
use borrow.Author.Tests.{le-leb, lt-leb, leb-true}
use Rattle.std.proofs.lemmas.Bool.{cond_both}
use Rattle.format.specs.Digits.{digits, splice}
use Rattle.format.proofs.DigitLaws.{length_digits}
use Rattle.bits.proofs.Splices.{length_splice}
use Rattle.runs.specs.Stored.{stored}

-- room for all of them, or not
pub stored_fits : (out : List ℕ) (at : ℕ) (xs : List ℕ) → at + length xs ≤ length out → stored out at xs ≡ splice out at xs
unfolding stored
stored_fits out at xs h = rw (le-leb (at + length xs) (length out) h)

pub stored_short : (out : List ℕ) (at : ℕ) (xs : List ℕ) → length out < at + length xs → stored out at xs ≡ out
unfolding stored
stored_short out at xs h = rw (lt-leb (at + length xs) (length out) h)

-- the buffer is as long as it was
pub stored_length : (out : List ℕ) (at : ℕ) (xs : List ℕ) → length (stored out at xs) ≡ length out
unfolding stored
stored_length out at xs =
    cond_both (leb (at + length xs) (length out)) (splice out at xs) out (λ (o : List ℕ). length o ≡ length out)
    (λ e. length_splice out at xs (leb-true (at + length xs) (length out) e)) (λ _. refl)

-- k digits, where there is room for them
pub digits_fit : (out : List ℕ) (at k v : ℕ) → at + k ≤ length out → stored out at (digits 256 k v) ≡ splice out at (digits 256 k v)
digits_fit out at k v h = stored_fits out at (digits 256 k v) (omega (arith, length_digits 256 k v))

-- and where there is not
pub digits_short : (out : List ℕ) (at k v : ℕ) → length out < at + k → stored out at (digits 256 k v) ≡ out
digits_short out at k v h = stored_short out at (digits 256 k v) (omega (arith, length_digits 256 k v))
