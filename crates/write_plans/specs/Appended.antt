-- Bytes stored one behind the other.
-- Assumes nothing: these are definitions.
use Rattle.std.specs.Prelude.{ℕ, ◌+◌, ◌≤◌, ◌≡◌, List, length}
use Rattle.format.specs.Digits.{splice}

-- xs stand from a place on, if the buffer has room for them; r is the place behind them
pub record Appended (out : List ℕ) (place : ℕ) (xs : List ℕ) (out' : List ℕ) (r : ℕ) : Type 0 where
  pub size : r ≡ place + length xs
  pub bytes : r ≤ length out → out' ≡ splice out place xs
  pub long : length out' ≡ length out
