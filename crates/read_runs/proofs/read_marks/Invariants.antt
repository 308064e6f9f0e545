-- `read_marks`: the loop came along the lines of the run, under any names.
-- Assumes nothing.
use Prim.Native.Nat.{◌-◌, ◌^◌, ◌<◌}
use mathlib.Core.List.{List}
use lib.ListN.{get_or}
use Rattle.format.specs.Syntax.{Name}
use Rattle.runs.specs.Lines.{run, width_of}
use Rattle.write_runs.proofs.Runs.{lines}
use Rattle.read_runs.proofs.Runs.{Along}
use Rattle.read_runs.proofs.read_marks.Given as goal

abbrev pub invariant-loop-mark : goal.invariant-loop-mark
invariant-loop-mark l =
    ((nms : List Name) → Along (run nms 0 l.marks) (lines nms l.marks) l.ledger l.place l.at l.initial.out l.end.place l.end.at l.end.last l.mark-index l.out)
    × (l.end.last < 2 ^ width_of (get_or l.marks (l.mark-index - 1) 0))
