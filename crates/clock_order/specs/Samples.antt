-- Samples of the order of clocks: the turn, half a turn, a tick to either side, wide bases and extensions.
-- Assumes nothing.
use Rattle.std.specs.Prelude.{ℕ, ◌*◌, ◌^◌, ◌≡◌, refl, List, [], ◌∷◌, map}
use Rattle.format.specs.Added.{ticks}
use Rattle.clock_order.specs.Clock.{turn, half, forward}
use Rattle.clock_order.specs.Order.{earlier, opposite, same, order_of, clock_order}
use Rattle.clock_order.specs.declared.ClockOrder.{ClockOrder}
use Rattle.clock_order.specs.declared.ClockOrder.TheVariants.{Earlier, Same, Later, Opposite}

-- the turn's number is what the papers make it of, and it has two halves
pub turn_holds : (300 * 2 ^ 33 ≡ turn) × (2 * half ≡ turn)
turn_holds = (refl, refl)

-- a base and its ext, another base and its ext, and the answer
pub data Sample : Type 0 where
  reads : ℕ → ℕ → ℕ → ℕ → ClockOrder → Sample

abbrev given : Sample → ClockOrder
given (reads base ext base' ext' o) = clock_order base ext base' ext'

abbrev wanted : Sample → ClockOrder
wanted (reads base ext base' ext' o) = o

pub order_samples : List Sample
order_samples =
    -- a tick and none
    reads 0 0 0 0 Same ∷
    reads 0 0 0 1 Earlier ∷
    reads 0 1 0 0 Later ∷
    -- an extension of 300 counts as much as one of the base, and a greater base does not make a clock the later one
    reads 0 300 1 0 Same ∷
    reads 0 301 1 0 Later ∷
    reads 1 0 0 511 Earlier ∷
    reads 0 511 1 211 Same ∷
    -- half a turn, and a tick to either side of it, from 0 and from elsewhere, both ways
    reads 0 0 4294967295 299 Earlier ∷
    reads 0 0 4294967296 0 Opposite ∷
    reads 0 0 4294967296 1 Later ∷
    reads 4294967295 299 0 0 Later ∷
    reads 4294967296 0 0 0 Opposite ∷
    reads 4294967296 1 0 0 Earlier ∷
    reads 5 7 4294967301 6 Earlier ∷
    reads 5 7 4294967301 7 Opposite ∷
    reads 5 7 4294967301 8 Later ∷
    -- either side of the turn; the last base with an extension of 300 is the turn itself
    reads 8589934591 299 0 0 Earlier ∷
    reads 8589934591 300 0 0 Same ∷
    reads 8589934591 301 0 0 Later ∷
    reads 0 0 8589934591 299 Later ∷
    reads 0 0 8589934591 300 Same ∷
    reads 8589934591 511 0 211 Same ∷
    -- three readings, each earlier than the next all round: this is no order to sort by
    reads 0 0 3000000000 0 Earlier ∷
    reads 3000000000 0 6000000000 0 Earlier ∷
    reads 6000000000 0 0 0 Earlier ∷
    -- a wider base or extension counts by its low 33 or 9 bits: 512 is 0 and carries nothing
    reads 7 512 7 0 Same ∷
    reads 7 65535 7 511 Same ∷
    reads 8589934592 0 0 0 Same ∷
    reads 18446744073709551615 299 8589934592 0 Earlier ∷
    reads 12884901888 512 0 0 Opposite ∷
    []

pub order_samples_hold : map given order_samples ≡ map wanted order_samples
unfolding order_samples ticks forward earlier opposite same order_of clock_order
order_samples_hold = refl
