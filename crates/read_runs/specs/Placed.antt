-- Which places a reading of a ledger can stand at.
-- Assumes nothing: this is a definition.
use Rattle.std.specs.Prelude.{ℕ, ◌*◌, ◌≤◌, List, length}

-- a place of a ledger, and a bit place of the body that is not further on
pub record LedgerPlaced (l : List ℕ) (place at : ℕ) : Type 0 where
  pub short : length l ≤ 65537
  pub within : place ≤ length l
  pub behind : at ≤ 8 * place
