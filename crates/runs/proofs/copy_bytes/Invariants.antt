-- `copy_bytes`: an element more a turn.
-- Assumes nothing.
use Rattle.runs.proofs.Copies.{Copying}
use Rattle.runs.proofs.copy_bytes.Given as goal

abbrev pub invariant-loop-i : goal.invariant-loop-i
invariant-loop-i l = Copying l.bytes l.initial.out l.i l.out
