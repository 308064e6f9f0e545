-- `read_run`: what its marks' run says, of a step of the same ledger.
-- Assumes nothing.
use mathlib.Core.List.{[]}
use Rattle.format.specs.Syntax.{end}
use Rattle.read_runs.specs.Came.{some_way}
use Rattle.read_runs.proofs.Runs.{placed_on}
use Rattle.read_runs.proofs.read_run.Goals as goal

pub invariant_of-result-clause-placed : goal.invariant_of-result-clause-placed
invariant_of-result-clause-placed c = placed_on c.args.from.placed (c.in_ok-run.ensures.laid some_way [] (λ _. end)).to
