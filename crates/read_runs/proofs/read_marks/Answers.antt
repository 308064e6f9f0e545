-- `read_marks`: the loop came along the lines of the run, under any names.
-- Assumes nothing.
use Prim.Native.Nat.{ℕ}
use mathlib.Core.Path.{◌≡◌, refl}
use mathlib.Core.List.{[]}
use native.Mathlib.Omega.{arith}
use lib.ListN.{length, drop, get_or}
use lib.Pow.{pow_pos}
use Rattle.format.specs.Syntax.{end}
use Rattle.format.proofs.Passed.{carried}
use Rattle.runs.specs.Lines.{line, head_name}
use Rattle.runs.proofs.MarkLaws.{marks_at}
use Rattle.write_runs.proofs.Runs.{lines_next, lines_end, last_in}
use Rattle.read_runs.specs.Came.{some_way}
use Rattle.read_runs.proofs.Runs.{begin, placed_on, turn, stop, ended}
use Rattle.read_runs.proofs.read_marks.Goals as goal

pub loop-mark-init : goal.loop-mark-init
loop-mark-init c = (λ nms. begin c.requires.placed.within (λ k. refl), pow_pos _)

pub read_line-requires-clause-placed : goal.read_line-requires-clause-placed
read_line-requires-clause-placed c = placed_on c.requires.placed ((c.loop-mark.invariant.0 []).came some_way (λ _. end))

pub read_line-requires-clause-valid : goal.read_line-requires-clause-valid
read_line-requires-clause-valid c = marks_at c.args.marks.now c.loop-mark.mark-index c.requires.valid (omega arith)

pub returns-in_err-end-clause-laid : goal.returns-in_err-end-clause-laid
returns-in_err-end-clause-laid c =
    let l = c.loop-mark in
    λ way nms k. rw (carried c.from_residual.ensures) (record {
      to = stop (line (head_name (drop l.mark-index nms)) (get_or c.args.marks.now l.mark-index 0)) (l.invariant.0 nms)
          (λ k. lines_next nms _ _ _ k c.loop-mark-test.true)
          (λ way k. (c.in_err-end.ensures.laid way (head_name (drop l.mark-index nms)) k).to) way k;
    })

pub loop-mark-preserved : goal.loop-mark-preserved
loop-mark-preserved c =
    let l = c.loop-mark in (
      λ nms. turn (line (head_name (drop l.mark-index nms)) (get_or c.args.marks.now l.mark-index 0)) (l.invariant.0 nms)
          (λ k. lines_next nms _ _ _ k c.loop-mark-test.true)
          (λ way k. (c.in_ok-end.ensures.laid way (head_name (drop l.mark-index nms)) k).to),
      last_in (λ (v : ℕ). v) refl c.args.marks.now l.mark-index c.in_ok-end.ensures.result_bound,
    )

pub returns-clause-laid : goal.returns-clause-laid
returns-clause-laid c =
    let z : c.loop-mark.mark-index ≡ length c.args.marks.now = omega arith in
    λ way nms k. record { to = ended (c.loop-mark.invariant.0 nms) way k _ (lines_end nms c.args.marks.now _ c.loop-mark.mark-index k z) }
