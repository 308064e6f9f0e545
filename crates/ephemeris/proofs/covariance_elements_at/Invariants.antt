-- `covariance_elements_at` meets its contract. The loop's invariant: the first i values are in, the others 0.
-- Assumes nothing.
use Prim.Native.Nat.{◌-◌}
use mathlib.Core.Path.{◌≡◌}
use mathlib.Core.List.{◌++◌}
use lib.ListN.{replicate}
use Rattle.ephemeris.specs.Ephemeris.{words_at}
use Rattle.ephemeris.proofs.covariance_elements_at.Given as goal

abbrev pub invariant-loop-i : goal.invariant-loop-i
invariant-loop-i l = l.elements ≡ words_at l.from.body.now l.from.at l.i ++ replicate (21 - l.i) 0
