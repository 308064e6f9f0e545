-- `closed` meets its contract, by its test.
-- Assumes nothing.
use Prim.Native.Nat.{ℕ, min}
use mathlib.Core.Path.{◌≡◌, refl, ap, ◌∙◌}
use mathlib.Core.Bool.{Bool, true, false, cond}
use native.Mathlib.Omega.{arith}
use lib.Dec.{leb}
use borrow.Author.Tests.{le-leb, lt-leb, leb-true, leb-false}
use Rattle.format.specs.At.{found_at}
use Rattle.plan.specs.Plan.{plan_closed}
use Rattle.plan.proofs.closed.Goals as goal

pub returns-then-end-found : goal.returns-then-end-found
unfolding plan_closed
returns-then-end-found c = let a = c.args in rw (lt-leb a.found.next a.end c.if-end-found.true)

-- the lesser of two numbers, by the definition's test
lesser : (m n : ℕ) → min m n ≡ cond (leb m n) m n
lesser m n = go (leb m n) refl
  where
    go : (t : Bool) → leb m n ≡ t → min m n ≡ cond t m n
    go true h = let g = leb-true m n h in omega arith
    go false h = let g = leb-false m n h in omega arith

pub returns : goal.returns
unfolding plan_closed
returns c =
    let a = c.args in
    rw (le-leb a.found.next a.end c.if-end-found.false)
    (ap (λ (n : ℕ). found_at a.found.value n) (c.min.ensures ∙ lesser a.end a.all))
