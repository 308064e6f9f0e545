-- What a step stores.
-- Assumes nothing: these are definitions.
use Rattle.std.specs.Prelude.{ℕ, ◌+◌, cond, List, leb, length}
use Rattle.format.specs.Digits.{splice}

-- what storing xs from a place on leaves in a buffer: all of them where there is room, and else the buffer as it was
unfoldable pub stored : List ℕ → ℕ → List ℕ → List ℕ
stored out at xs = cond (leb (at + length xs) (length out)) (splice out at xs) out
