-- `pass_run` meets its contract: a mark a turn.
-- Assumes nothing.
use Rattle.write_runs.proofs.Passes.{Passed}
use Rattle.write_runs.proofs.pass_run.Given as goal

abbrev pub invariant-loop-mark : goal.invariant-loop-mark
invariant-loop-mark l = Passed l.body l.at l.marks l.place l.here l.there l.width l.mark-index
