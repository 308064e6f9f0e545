-- Where the writing of a ledger may stand.
-- Assumes nothing: these are definitions.
use Rattle.std.specs.Prelude.{ℕ, ◌+◌, ◌*◌, ◌≤◌, List, length}

-- a place of a body, and a place of the ledger that is not further on
pub record Placed (body : List ℕ) (at place : ℕ) : Type 0 where
  pub short : length body ≤ 4096
  pub within : at ≤ 8 * length body
  pub behind : place ≤ at + 8
