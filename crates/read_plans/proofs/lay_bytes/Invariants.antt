-- `lay_bytes`: at a byte place the bytes are copied; else a byte more a turn.
-- Assumes nothing.
use Rattle.read_plans.proofs.Laying.{Laying}
use Rattle.read_plans.proofs.lay_bytes.Given as goal

abbrev pub invariant-loop-i : goal.invariant-loop-i
invariant-loop-i l = Laying l.bytes l.at l.initial.out l.i l.out
