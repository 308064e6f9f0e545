-- What S-14 promises of the order of clocks: each answer means what it says and no other does; a shift of both readings
-- keeps it, an exchange turns it, and wider bases and extensions count by their low bits.
-- Assumes nothing.
use Prim.Native.Nat.{ℕ, zero, suc, ◌+◌, ◌-◌, ◌*◌, ◌/◌, ◌%◌, ◌^◌, ◌<◌}
use mathlib.Core.Path.{◌≡◌, refl, sym, ap, ap₂, ◌∙◌}
use mathlib.Core.Logic.{◌↔◌}
use native.Mathlib.Omega.{arith}
use lib.IntN.{ℤ, pos, negsuc}
use Rattle.format.specs.Added.{ticks}
use Rattle.clock_order.specs.Clock.{turn, forward}
use Rattle.clock_order.specs.Order.{order_of, clock_order, order_number, Means, exchanged, Shifted}
use Rattle.clock_order.specs.declared.ClockOrder.{ClockOrder}
use Rattle.clock_order.specs.declared.ClockOrder.TheVariants.{Earlier, Same, Later, Opposite}
use Rattle.clock_order.proofs.ClockLaws.{forward_shift}
use Rattle.clock_order.proofs.Ways.{By, some_by, by_exchanged, by_means, means_by, by_order}

-- what the answer says holds of the way forward
order_by : (a b : ℕ) → By (order_of a b) (forward a b)
order_by a b = let s = some_by (forward a b) in rw (by_order s.0 a b s.1) at s.1

-- ---- each answer means what it says, and no other does

pub clock_order_means : (base ext base' ext' : ℕ)
    → Means (clock_order base ext base' ext') (ticks base ext) (ticks base' ext')
unfolding clock_order
clock_order_means base ext base' ext' =
    let a = ticks base ext in
    let b = ticks base' ext' in
    by_means (order_of a b) a b (order_by a b)

pub clock_order_only : (o : ClockOrder) (base ext base' ext' : ℕ)
    → Means o (ticks base ext) (ticks base' ext') → o ≡ clock_order base ext base' ext'
unfolding clock_order
clock_order_only o base ext base' ext' h =
    let a = ticks base ext in
    let b = ticks base' ext' in
    by_order o a b (means_by o a b h)

-- the answer of a number, so different answers have different numbers
answer_at : ℕ → ClockOrder
answer_at zero = Same
answer_at (suc zero) = Earlier
answer_at (suc (suc zero)) = Later
answer_at (suc (suc (suc n))) = Opposite

number_back : (o : ClockOrder) → answer_at (order_number o) ≡ o
unfolding order_number answer_at
number_back Earlier = refl
number_back Same = refl
number_back Later = refl
number_back Opposite = refl

number_tells : (o p : ClockOrder) → order_number o ≡ order_number p → o ≡ p
number_tells o p e = sym (number_back o) ∙ ap answer_at e ∙ number_back p

-- both at once, of the number that C gets: it is an answer's number exactly if that answer is true of the ticks
pub order_exactly : (o : ClockOrder) (base ext base' ext' : ℕ)
    → (order_number (clock_order base ext base' ext') ≡ order_number o) ↔ Means o (ticks base ext) (ticks base' ext')
order_exactly o base ext base' ext' = (there, back)
  where
    there : order_number (clock_order base ext base' ext') ≡ order_number o → Means o (ticks base ext) (ticks base' ext')
    there e = rw (number_tells (clock_order base ext base' ext') o e) at (clock_order_means base ext base' ext')

    back : Means o (ticks base ext) (ticks base' ext') → order_number (clock_order base ext base' ext') ≡ order_number o
    back h = ap order_number (sym (clock_order_only o base ext base' ext' h))

-- ---- "a shift of both readings' ticks by one amount must not alter the result"

order_shifted : (s : ℤ) (a b a' b' : ℕ) → Shifted s a a' → Shifted s b b' → order_of a' b' ≡ order_of a b
order_shifted s a b a' b' p q = sym (by_order (order_of a b) a' b' (rw (forward_shift s a b a' b' p q) (order_by a b)))

pub order_shift : (a b s : ℕ) → order_of (a + s) (b + s) ≡ order_of a b
order_shift a b s = order_shifted (pos s) a b (a + s) (b + s) refl refl

-- the same of readings, for every whole amount, forward or back
pub clock_order_shift : (s : ℤ) (base ext base' ext' base₁ ext₁ base₁' ext₁' : ℕ)
    → Shifted s (ticks base ext) (ticks base₁ ext₁) → Shifted s (ticks base' ext') (ticks base₁' ext₁')
    → clock_order base₁ ext₁ base₁' ext₁' ≡ clock_order base ext base' ext'
unfolding clock_order
clock_order_shift s base ext base' ext' base₁ ext₁ base₁' ext₁' p q =
    order_shifted s (ticks base ext) (ticks base' ext') (ticks base₁ ext₁) (ticks base₁' ext₁') p q

-- some reading stands at every tick
reading : (t : ℕ) → (base : ℕ) × (ext : ℕ) × (base < 2 ^ 33) × (ext < 300) × (t % turn ≡ ticks base ext % turn)
unfolding ticks
reading t = (t % turn / 300, t % turn % 300, omega arith, omega arith, at (t % turn) (omega arith))
  where
    at : (x : ℕ) → x < turn → x ≡ (300 * (x / 300 % 2 ^ 33) + x % 300 % 2 ^ 9) % turn
    at x h =
        let low : x / 300 % 2 ^ 33 ≡ x / 300 = omega arith in
        let rest : x % 300 % 2 ^ 9 ≡ x % 300 = omega arith in
        rw (low, rest) (omega arith)

-- so the shifted reading is there, by whatever amount
pub shifted_reading : (s : ℤ) (base ext : ℕ)
    → (base₁ : ℕ) × (ext₁ : ℕ) × (base₁ < 2 ^ 33) × (ext₁ < 300) × Shifted s (ticks base ext) (ticks base₁ ext₁)
shifted_reading (pos s) base ext = reading (ticks base ext + s)
shifted_reading (negsuc s) base ext =
    let r = reading (ticks base ext + (turn - suc s % turn)) in
    (r.0, r.1, r.2, r.3, back (ticks base ext) (ticks r.0 r.1) r.4)
  where
    back : (a b : ℕ) → (a + (turn - suc s % turn)) % turn ≡ b % turn → a % turn ≡ (b + suc s) % turn
    back a b e = omega arith

-- ---- exchanged readings: earlier for later, later for earlier; same and opposite stay

order_exchange : (a b : ℕ) → order_of b a ≡ exchanged (order_of a b)
order_exchange a b = sym (by_order (exchanged (order_of a b)) b a (by_exchanged (order_of a b) a b (order_by a b)))

pub clock_order_exchange : (base ext base' ext' : ℕ)
    → clock_order base' ext' base ext ≡ exchanged (clock_order base ext base' ext')
unfolding clock_order
clock_order_exchange base ext base' ext' = order_exchange (ticks base ext) (ticks base' ext')

-- ---- "a caller's wider base or ext is still first reduced": it counts by its low 33 or 9 bits

ticks_reduced : (base ext : ℕ) → ticks (base % 2 ^ 33) (ext % 2 ^ 9) ≡ ticks base ext
unfolding ticks
ticks_reduced base ext = omega arith

pub clock_order_reduced : (base ext base' ext' : ℕ)
    → clock_order (base % 2 ^ 33) (ext % 2 ^ 9) (base' % 2 ^ 33) (ext' % 2 ^ 9) ≡ clock_order base ext base' ext'
unfolding clock_order
clock_order_reduced base ext base' ext' = ap₂ order_of (ticks_reduced base ext) (ticks_reduced base' ext')
