-- Bits that were stored, in a buffer that has room for them.
-- Assumes nothing.
use Prim.Native.Nat.{ℕ, ◌+◌, ◌*◌, ◌≤◌}
use mathlib.Core.Path.{◌≡◌, ◌∙◌}
use mathlib.Core.List.{List}
use native.Mathlib.Omega.{arith}
use lib.ListN.{length}
use Rattle.format.specs.Digits.{bits_of, splice}
use Rattle.format.proofs.DigitLaws.{length_bits}
use Rattle.runs.specs.Stored.{stored}
use Rattle.runs.proofs.Stores.{stored_fits}

pub fits : (out out' xs : List ℕ) (at w : ℕ) → bits_of out' ≡ stored (bits_of out) at xs → length xs ≡ w → at + w ≤ 8 * length out
    → bits_of out' ≡ splice (bits_of out) at xs
fits out out' xs at w e n h = e ∙ stored_fits (bits_of out) at xs (omega (arith, length_bits out))
