-- `write_run` meets its contract: where the run ended is a step in the same body.
-- Assumes nothing.
use mathlib.Core.List.{[]}
use Rattle.format.specs.Syntax.{end}
use Rattle.format.specs.declared.Edition.TheVariants.{First}
use Rattle.write_runs.specs.Went.{outside}
use Rattle.write_runs.proofs.Runs.{placed_on}
use Rattle.write_runs.proofs.write_run.Goals as goal

pub invariant_of-result : goal.invariant_of-result
invariant_of-result c = record { placed = placed_on c.args.from.placed (c.in_ok-run.ensures.ran (outside First) [] (λ _. end)).to }
