-- `read_counted`: the loop came along so many rounds of the run.
-- Assumes nothing.
use mathlib.Core.Path.{refl, ◌∙◌}
use mathlib.Core.List.{[]}
use native.Mathlib.Omega.{arith}
use Rattle.format.specs.Syntax.{end}
use Rattle.format.proofs.Passed.{carried}
use Rattle.runs.specs.Lines.{run}
use Rattle.write_runs.proofs.Runs.{rounds_next, rounds_end, rounds_all}
use Rattle.read_runs.specs.Came.{some_way}
use Rattle.read_runs.proofs.Runs.{begin, turn, stop, ended}
use Rattle.read_runs.proofs.read_counted.Goals as goal

pub loop-init : goal.loop-init
loop-init c = (refl, λ nms. begin c.args.from.placed.within (rounds_all nms c.args.marks.now c.args.count))

pub returns-in_err-step : goal.returns-in_err-step
returns-in_err-step c =
    let a = c.args in
    let i = c.loop.invariant in
    λ way nms s. rw (carried c.from_residual.ensures) (record {
      to = stop (run nms 0 a.marks.now) (i.1 nms) (λ k. rounds_next nms a.marks.now a.count 0 c.loop.counter k c.loop-test.true)
          (λ way k. rw i.0 at (c.in_err-step.ensures.laid way nms k).to) way (λ _. s);
    })

pub loop-preserved : goal.loop-preserved
loop-preserved c =
    let a = c.args in
    let i = c.loop.invariant in (
      (c.in_ok-step.ensures.laid some_way [] (λ _. end)).to.same ∙ i.0,
      λ nms. turn (run nms 0 a.marks.now) (i.1 nms) (λ k. rounds_next nms a.marks.now a.count 0 c.loop.counter k c.loop-test.true)
          (λ way k. rw i.0 at (c.in_ok-step.ensures.laid way nms k).to.came),
    )

pub returns : goal.returns
returns c =
    let a = c.args in
    let i = c.loop.invariant in
    λ way nms s. record {
      to = record {
        same = i.0;
        came = ended (i.1 nms) way (λ _. s) _ (rounds_end nms a.marks.now a.count 0 c.loop.counter (λ _. s) (omega arith));
      };
    }
