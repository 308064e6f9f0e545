-- Behind each turn of `read_systems` one more clock is tested.
-- Assumes nothing.
use Prim.Native.Nat.{◌+◌}
use Rattle.std.specs.Prelude.{Ok}
use Rattle.systems.proofs.Lists.{Tested}
use Rattle.systems.proofs.read_systems.Given as goal

abbrev pub invariant-loop-i : goal.invariant-loop-i
invariant-loop-i l = Tested (Ok l.list) l.from.body.now (l.from.at + 10) l.list.value.count l.i
