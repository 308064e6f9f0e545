-- `store_run` meets its contract: a mark a turn; the law of runs says what the loop has stored.
-- Assumes nothing.
use Prim.Native.Nat.{ℕ}
use mathlib.Core.Path.{◌≡◌, refl}
use mathlib.Core.List.{[]}
use native.Mathlib.Omega.{arith}
use lib.Pow.{pow_pos}
use lib.ListN.{length, drop, get_or}
use Rattle.runs.specs.Lines.{line, head_name}
use Rattle.runs.proofs.MarkLaws.{marks_at}
use Rattle.format.proofs.Passed.{carried}
use Rattle.write_runs.proofs.Runs.{lines_next, lines_end, balance_next, balance_end, begin, last_in, came, stop, ended}
use Rattle.write_runs.proofs.store_run.Goals as goal

pub loop-mark-init : goal.loop-mark-init
loop-mark-init c = (λ nms. begin c.requires.placed (λ k. refl), pow_pos _, (refl, refl))

pub write_line-requires : goal.write_line-requires
write_line-requires c = record { placed = (c.loop-mark.invariant.0 []).placed; valid = marks_at c.args.marks.now c.loop-mark.mark-index c.requires.valid (omega arith) }

pub returns-in_err-end-clause-ran : goal.returns-in_err-end-clause-ran
returns-in_err-end-clause-ran c =
    let l = c.loop-mark in
    λ e nms k. rw (carried c.from_residual.ensures)
    (record {
      to = stop (line (head_name (drop l.mark-index nms)) (get_or c.args.marks.now l.mark-index 0)) (l.invariant.0 nms)
          (λ k. lines_next nms _ _ _ k (omega arith)) (λ e k. (c.in_err-end.ensures.ran e (head_name (drop l.mark-index nms)) k).to) e k;
    })

pub loop-mark-preserved : goal.loop-mark-preserved
loop-mark-preserved c =
    let a = c.args in
    let l = c.loop-mark in
    let ms = a.marks.now in
    let step = c.in_ok-end.ensures in (
      λ nms. came (line (head_name (drop l.mark-index nms)) (get_or ms l.mark-index 0)) (l.invariant.0 nms)
          (λ k. lines_next nms _ _ _ k (omega arith))
          (λ e k. step.ran e (head_name (drop l.mark-index nms)) k),
      last_in (λ (v : ℕ). v) refl ms l.mark-index step.result_bound,
      balance_next ms a.at a.place l.end.at l.end.place l.mark-index (omega arith) step.moved.to l.invariant.2,
    )

pub returns : goal.returns
returns c =
    let a = c.args in
    let l = c.loop-mark in
    let z : l.mark-index ≡ length a.marks.now = omega arith in
    record {
      ran = λ e nms k. record { to = ended (l.invariant.0 nms) e k _ (lines_end nms a.marks.now _ l.mark-index k z) };
      result_bound = rw (← z) l.invariant.1;
      moved = record { to = balance_end a.marks.now a.at a.place l.end.at l.end.place l.mark-index z l.invariant.2 };
    }
