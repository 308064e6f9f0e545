-- `write_rounds` meets its contract: the run a turn.
-- Assumes nothing.
use mathlib.Core.List.{List}
use Rattle.format.specs.Syntax.{Name}
use Rattle.format.specs.Tables.{times}
use Rattle.runs.specs.Lines.{run_of}
use Rattle.write_runs.proofs.Runs.{Onward, rounds}
use Rattle.write_runs.proofs.write_rounds.Given as goal

abbrev pub invariant-loop : goal.invariant-loop
invariant-loop l = (nms : List Name) → Onward (λ k. times l.count (run_of nms l.marks) (k 0)) (rounds nms l.marks l.count) l.from.body.now l.from.at l.from.place l.initial.out l.step.body.now l.step.at l.step.place l.step.last l.counter l.out
