-- `write_rounds` meets its contract: the run a turn.
-- Assumes nothing.
use mathlib.Core.Path.{refl}
use native.Mathlib.Omega.{arith}
use Rattle.runs.specs.Lines.{run}
use Rattle.format.proofs.Passed.{carried}
use Rattle.write_runs.proofs.Runs.{rounds_next, rounds_end, rounds_all, begin, turn, halt, arrived}
use Rattle.write_runs.proofs.write_rounds.Goals as goal

pub loop-init : goal.loop-init
loop-init c =
    λ nms. record { same = refl; along = begin c.args.from.placed (rounds_all nms c.args.marks.now c.args.count) }

pub returns-in_err-step : goal.returns-in_err-step
returns-in_err-step c =
    let a = c.args in
    let l = c.loop in
    rw (carried c.from_residual.ensures) (record {
      ran = λ e nms s. halt (run nms 0 a.marks.now) (l.invariant nms)
          (λ k. rounds_next nms a.marks.now a.count l.step.last l.counter k (omega arith))
          (λ e k. c.in_err-step.ensures.ran e nms k) e (λ _. s) (λ _. s);
    })

pub loop-preserved : goal.loop-preserved
loop-preserved c =
    let a = c.args in
    let l = c.loop in
    λ nms. turn (run nms 0 a.marks.now) (l.invariant nms)
    (λ k. rounds_next nms a.marks.now a.count l.step.last l.counter k (omega arith)) (λ e k. c.in_ok-step.ensures.ran e nms k)

pub returns : goal.returns
returns c =
    let a = c.args in
    let l = c.loop in
    record { ran = λ e nms s. arrived (l.invariant nms) e (λ _. s) (λ _. s) (rounds_end nms a.marks.now a.count l.step.last l.counter (λ _. s) (omega arith)) }
