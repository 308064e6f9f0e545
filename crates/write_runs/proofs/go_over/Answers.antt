-- `go_over` meets its contract: with no buffer the fields are passed, else they are stored.
-- Assumes nothing.
use native.Mathlib.Omega.{arith}
use Rattle.write_runs.proofs.Passes.{none_stored}
use Rattle.write_runs.proofs.go_over.Goals as goal

pub returns-then-out-eq0-clause-ran : goal.returns-then-out-eq0-clause-ran
returns-then-out-eq0-clause-ran c = λ e nms k. none_stored (omega arith) (c.pass_run.ensures.ran e nms k)
