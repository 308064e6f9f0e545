-- `read_counted`: the loop came along so many rounds of the run.
-- Assumes nothing.
use mathlib.Core.Path.{◌≡◌}
use mathlib.Core.List.{List}
use Rattle.format.specs.Syntax.{Name}
use Rattle.format.specs.Tables.{times}
use Rattle.runs.specs.Lines.{run_of}
use Rattle.write_runs.proofs.Runs.{rounds}
use Rattle.read_runs.proofs.Runs.{Along}
use Rattle.read_runs.proofs.read_counted.Given as goal

abbrev pub invariant-loop : goal.invariant-loop
invariant-loop l =
    (l.step.ledger.now ≡ l.from.ledger.now)
    × ((nms : List Name) → Along (λ k. times l.count (run_of nms l.marks) (k 0)) (rounds nms l.marks l.count) l.from.ledger.now l.from.place l.from.at l.initial.out l.step.place l.step.at l.step.last l.counter l.out)
