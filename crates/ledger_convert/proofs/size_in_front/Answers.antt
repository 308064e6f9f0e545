-- `size_in_front` reads the two bytes in front, or those that there are.
-- Assumes nothing.
use native.Mathlib.Omega.{arith}
use mathlib.Core.Path.{◌≡◌, ap, ◌∙◌}
use Prim.Native.Nat.{ℕ, ◌+◌, min}
use lib.ListN.{length, take, drop}
use mathlib.Core.List.{List}
use Rattle.format.specs.Digits.{value}
use Rattle.format.proofs.DigitLaws.{below_of}
use Rattle.ledger_convert.specs.Archive.{size_in_front}
use Rattle.ledger_convert.proofs.Cuts.{front_known, size_most}
use Rattle.ledger_convert.proofs.size_in_front.Goals as goal

-- the first two bytes spell what is asked for
front : (bytes : List ℕ) (n known : ℕ) → known ≡ min (length bytes) 2 → n ≡ value 256 (take known (drop 0 bytes))
    → 2 + n ≡ size_in_front bytes
unfolding size_in_front
front bytes n known k e = ap (λ (m : ℕ). 2 + m) (e ∙ ap (value 256) (front_known bytes known k))

pub overflow_add-result : goal.overflow_add-result
overflow_add-result c =
    let e = front c.args.bytes.now c.get_be.result c.min-known.result c.min-known.ensures c.get_be.ensures in
    let most = size_most c.args.bytes.now (below_of 256 c.args.bytes.now (λ i. omega (arith, c.type_inv.bytes i))) in
    omega (arith, e, most)

pub returns-clause-is : goal.returns-clause-is
returns-clause-is c = front c.args.bytes.now c.get_be.result c.min-known.result c.min-known.ensures c.get_be.ensures

pub returns-clause-range : goal.returns-clause-range
returns-clause-range c =
    let e = front c.args.bytes.now c.get_be.result c.min-known.result c.min-known.ensures c.get_be.ensures in
    let most = size_most c.args.bytes.now (below_of 256 c.args.bytes.now (λ i. omega (arith, c.type_inv.bytes i))) in
    (omega arith, omega (arith, e, most))
