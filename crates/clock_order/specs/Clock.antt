-- The clock's circle: a full turn, half of it, and the way forward.
-- Assumes nothing: these are definitions.
use Rattle.std.specs.Prelude.{ℕ, ◌+◌, ◌-◌, ◌/◌, ◌%◌}

-- "the clock turns over after" so many ticks: 300 times 2 to the 33rd
abbrev pub turn : ℕ
turn = 2576980377600

-- "half a turn"
abbrev pub half : ℕ
half = turn / 2

-- "going forward from it to the other takes" so many ticks, fewer than a full turn; ticks are taken modulo a turn
unfoldable pub forward : ℕ → ℕ → ℕ
forward a b = (b % turn + (turn - a % turn)) % turn
