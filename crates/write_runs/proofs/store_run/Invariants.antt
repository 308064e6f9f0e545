-- `store_run` meets its contract: a mark a turn; the law of runs says what the loop has stored.
-- Assumes nothing.
use Prim.Native.Nat.{◌-◌, ◌^◌, ◌<◌}
use mathlib.Core.List.{List}
use lib.ListN.{get_or}
use Rattle.format.specs.Syntax.{Name}
use Rattle.runs.specs.Lines.{run, width_of}
use Rattle.write_runs.proofs.Runs.{Along, lines, Balance}
use Rattle.write_runs.proofs.store_run.Given as goal

abbrev pub invariant-loop-mark : goal.invariant-loop-mark
invariant-loop-mark l =
    ((nms : List Name) → Along (run nms 0 l.marks) (lines nms l.marks) l.body l.at l.place l.initial.out l.end.at l.end.place l.end.last l.mark-index l.out)
    × (l.end.last < 2 ^ width_of (get_or l.marks (l.mark-index - 1) 0))
    × Balance l.marks l.at l.place l.end.at l.end.place l.mark-index
