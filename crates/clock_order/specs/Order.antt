-- S-14, the order of two clock readings around the clock's turn: when each answer holds, and the answer.
-- Assumes nothing: these are definitions.
use Rattle.std.specs.Prelude.{ℕ, suc, ◌+◌, ◌%◌, ℤ, pos, negsuc, ◌≡◌, Bool, true, cond, ◌&&◌, ltb, leb, eqb}
use Rattle.format.specs.Added.{ticks}
use Rattle.clock_order.specs.Clock.{turn, half, forward}
use Rattle.clock_order.specs.declared.ClockOrder.{ClockOrder}
use Rattle.clock_order.specs.declared.ClockOrder.TheVariants.{Earlier, Same, Later, Opposite}

-- ---- the request's tests, of the ticks of the first reading and of the second

-- "earlier": the way forward from the first to the second is "at least 1 tick and fewer than half a turn"
unfoldable pub earlier : ℕ → ℕ → Bool
earlier a b = leb 1 (forward a b) && ltb (forward a b) half

-- "opposite": exactly half a turn
unfoldable pub opposite : ℕ → ℕ → Bool
opposite a b = eqb (forward a b) half

-- "the same instant": equal remainders
unfoldable pub same : ℕ → ℕ → Bool
same a b = eqb (a % turn) (b % turn)

-- ---- the answer

-- what is none of these is later
unfoldable pub order_of : ℕ → ℕ → ClockOrder
order_of a b = cond (earlier a b) Earlier (cond (opposite a b) Opposite (cond (same a b) Same Later))

-- "clock order": the first clock, base and ext, against the second
unfoldable pub clock_order : ℕ → ℕ → ℕ → ℕ → ClockOrder
clock_order base ext base' ext' = order_of (ticks base ext) (ticks base' ext')

-- the answer as a number, as C has it
unfoldable pub order_number : ClockOrder → ℕ
order_number Same = 0
order_number Earlier = 1
order_number Later = 2
order_number Opposite = 3

-- ---- what is said of the answer

-- what an answer says of the ticks of the first and of the second; later: the second is earlier than the first
abbrev pub Means : ClockOrder → ℕ → ℕ → Type 0
Means Earlier a b = earlier a b ≡ true
Means Same a b = same a b ≡ true
Means Later a b = earlier b a ≡ true
Means Opposite a b = opposite a b ≡ true

-- the answer when the two readings are exchanged
unfoldable pub exchanged : ClockOrder → ClockOrder
exchanged Earlier = Later
exchanged Same = Same
exchanged Later = Earlier
exchanged Opposite = Opposite

-- "a shift .. by one amount": the second ticks are the first ones shifted by a whole number, up to full turns;
-- `negsuc s` is a shift back by s + 1
abbrev pub Shifted : ℤ → ℕ → ℕ → Type 0
Shifted (pos s) a b = (a + s) % turn ≡ b % turn
Shifted (negsuc s) a b = a % turn ≡ (b + suc s) % turn
