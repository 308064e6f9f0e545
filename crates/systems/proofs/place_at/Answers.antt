-- `place_at` meets its contract: by the tests in front of a sum, and the test of its end.
-- Assumes nothing.
use Rattle.std.proofs.Common.{◌*◌, ◌≤◌, arith}
use native.Mathlib.Nat.{mul-le-mul}
use Rattle.systems.proofs.Elements.{Within, no_place, a_place}
use Rattle.systems.proofs.place_at.Goals as goal

pub returns-then-len-gt4096 : goal.returns-then-len-gt4096
returns-then-len-gt4096 c =
    let a = c.args in
    let m : 1 * a.index ≤ a.size * a.index = mul-le-mul c.requires.0 (omega arith) in
    no_place a.len a.part a.size a.index (λ (w : Within a.len a.part.start a.part.count a.size a.index). omega (arith, c.then-len-gt4096.either))

pub returns-then-len-start : goal.returns-then-len-start
returns-then-len-start c = no_place _ _ _ _ (λ w. omega (arith, w.fits))

pub returns : goal.returns
returns c = a_place _ _ _ _ (omega arith) (omega arith) (omega arith)
