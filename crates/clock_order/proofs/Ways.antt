-- What each answer says, by the way forward alone; this is how the code finds it.
-- Assumes nothing.
use Prim.Native.Nat.{ℕ, ◌%◌, ◌≤◌, ◌<◌}
use mathlib.Core.Path.{◌≡◌, refl, sym, ap₂, ◌∙◌}
use mathlib.Core.Bool.{Bool, true, false, and-eq-true_iff}
use native.Mathlib.Omega.{arith}
use lib.Dec.{ltb, leb, eqb}
use borrow.Author.Tests.{ltb-true, ltb-false, leb-true, eqb-true, eqb-false, lt-ltb, le-leb, eq-eqb, ne_eqb}
use Rattle.format.specs.Added.{ticks}
use Rattle.clock_order.specs.Clock.{turn, half, forward}
use Rattle.clock_order.specs.Order.{earlier, opposite, same, order_of, clock_order, Means, exchanged}
use Rattle.clock_order.specs.declared.ClockOrder.{ClockOrder}
use Rattle.clock_order.specs.declared.ClockOrder.TheVariants.{Earlier, Same, Later, Opposite}
use Rattle.clock_order.proofs.ClockLaws.{forward_below, forward_back, forward_none, none_forward}

-- what an answer says of the ticks from the first reading forward to the second
abbrev pub By : ClockOrder → ℕ → Type 0
By Earlier w = (0 < w) × (w < half)
By Same w = w ≡ 0
By Later w = half < w
By Opposite w = w ≡ half

-- some answer is there for every way
pub some_by : (w : ℕ) → (o : ClockOrder) × By o w
some_by w = none (eqb w 0) refl
  where
    over : (t : Bool) → eqb w half ≡ t → half ≤ w → (o : ClockOrder) × By o w
    over true e h = (Opposite, eqb-true w half e)
    over false e h = let n : w ≡ half → ⊥ = eqb-false w half e in (Later, omega arith)

    less : (t : Bool) → ltb w half ≡ t → (w ≡ 0 → ⊥) → (o : ClockOrder) × By o w
    less true e n = let h : w < half = ltb-true w half e in (Earlier, (omega arith, h))
    less false e n = over (eqb w half) refl (ltb-false w half e)

    none : (t : Bool) → eqb w 0 ≡ t → (o : ClockOrder) × By o w
    none true e = (Same, eqb-true w 0 e)
    none false e = less (ltb w half) refl (eqb-false w 0 e)

-- ---- the request's test, in terms of the way forward

earlier_by : (a b : ℕ) → earlier a b ≡ true → By Earlier (forward a b)
unfolding earlier
earlier_by a b e =
    let both = (and-eq-true_iff (leb 1 (forward a b)) (ltb (forward a b) half)).0 e in
    let least : 1 ≤ forward a b = leb-true 1 (forward a b) both.0 in
    (omega arith, ltb-true (forward a b) half both.1)

by_earlier : (a b : ℕ) → By Earlier (forward a b) → earlier a b ≡ true
unfolding earlier
by_earlier a b h = rw (le-leb 1 (forward a b) (omega arith), lt-ltb (forward a b) half h.1)

not_earlier : (a b : ℕ) → (By Earlier (forward a b) → ⊥) → earlier a b ≡ false
not_earlier a b n = go (earlier a b) refl
  where
    go : (t : Bool) → earlier a b ≡ t → t ≡ false
    go true e = absurd (n (earlier_by a b e))
    go false e = refl

-- ---- the way back

pub by_exchanged : (o : ClockOrder) (a b : ℕ) → By o (forward a b) → By (exchanged o) (forward b a)
unfolding exchanged
by_exchanged Earlier a b h = let k = forward_back a b h.0 in let l = h.1 in omega arith
by_exchanged Same a b h = none_forward b a (sym (forward_none a b h))
by_exchanged Later a b h =
    let k = forward_back a b (omega arith) in
    let l = forward_below a b in
    (omega arith, omega arith)
by_exchanged Opposite a b h = let k = forward_back a b (omega arith) in omega arith

-- ---- `By` and `Means` say the same

pub by_means : (o : ClockOrder) (a b : ℕ) → By o (forward a b) → Means o a b
unfolding opposite same exchanged
by_means Earlier a b h = by_earlier a b h
by_means Same a b h = eq-eqb (a % turn) (b % turn) (forward_none a b h)
by_means Later a b h = by_earlier b a (by_exchanged Later a b h)
by_means Opposite a b h = eq-eqb (forward a b) half h

pub means_by : (o : ClockOrder) (a b : ℕ) → Means o a b → By o (forward a b)
unfolding opposite same exchanged
means_by Earlier a b h = earlier_by a b h
means_by Same a b h = none_forward a b (eqb-true (a % turn) (b % turn) h)
means_by Later a b h = by_exchanged Earlier b a (earlier_by b a h)
means_by Opposite a b h = eqb-true (forward a b) half h

-- ---- and it is the answer

pub by_order : (o : ClockOrder) (a b : ℕ) → By o (forward a b) → o ≡ order_of a b
unfolding order_of opposite same
by_order Earlier a b h = rw (by_earlier a b h)
by_order Same a b h =
    let e : same a b ≡ true = eq-eqb (a % turn) (b % turn) (forward_none a b h) in
    rw (not_earlier a b (λ e. omega arith), ne_eqb (forward a b) half (λ e. omega arith), e)
by_order Later a b h =
    let e : same a b ≡ false = ne_eqb (a % turn) (b % turn) (λ e. let z = none_forward a b e in omega arith) in
    rw (not_earlier a b (λ e. omega arith), ne_eqb (forward a b) half (λ e. omega arith), e)
by_order Opposite a b h = rw (not_earlier a b (λ e. omega arith), eq-eqb (forward a b) half h)

-- the same of two clocks, from their ticks and the way between these
pub by_clock_order : (o : ClockOrder) (base ext base' ext' a b w : ℕ) → a ≡ ticks base ext → b ≡ ticks base' ext'
    → w ≡ forward a b → By o w → o ≡ clock_order base ext base' ext'
unfolding clock_order
by_clock_order o base ext base' ext' a b w p q e h = by_order o a b (rw e at h) ∙ ap₂ order_of p q
