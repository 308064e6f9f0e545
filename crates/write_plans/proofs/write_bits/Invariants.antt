-- `write_bits`: whole bytes are copied; else a byte more a turn.
-- Assumes nothing.
use Rattle.write_plans.proofs.Packing.{Packing}
use Rattle.write_plans.proofs.write_bits.Given as goal

abbrev pub invariant-loop-i : goal.invariant-loop-i
invariant-loop-i l = Packing l.body l.at l.m l.initial.out l.place l.i l.out
