-- `write_hopping` goes through what a plan's length counts; the clocks spare the bits that raw bytes lack.
-- Assumes nothing.
use native.Mathlib.Omega.{arith}
use Rattle.format.specs.Tables.{mode}
use Rattle.runs.specs.Lines.{sign_of, width_of, size_of, run}
use Rattle.format.proofs.Passed.{carried}
use Rattle.write_runs.specs.Went.{inside}
use Rattle.write_runs.proofs.WentLaws.{stops, on}
use Rattle.write_plans.proofs.SlotLaws.{then_ragged}
use Rattle.write_plans.proofs.Names.{mode_names, time_names, after_mode}
use Rattle.write_plans.proofs.write_hopping.Goals as goal

pub returns-in_err-head : goal.returns-in_err-head
unfolding run sign_of width_of
returns-in_err-head c =
    rw (carried c.from_residual.ensures) (λ ed. stops (c.in_err-head.ensures.ran (inside ed c.args.stop) mode_names after_mode))

pub returns-in_err-clocks : goal.returns-in_err-clocks
unfolding run sign_of width_of
returns-in_err-clocks c =
    let stop = c.args.stop in
    rw (carried c.from_residual-in_err-clocks.ensures) (λ ed. on (c.in_ok-head.ensures.ran (inside ed stop) mode_names after_mode)
    (stops (c.in_err-clocks.ensures.ran (inside ed stop) time_names (λ _. mode c.in_ok-head.head.last))))

pub write_mode-requires-clause-at_value : goal.write_mode-requires-clause-at_value
unfolding width_of size_of
write_mode-requires-clause-at_value c =
    (omega (arith, c.in_ok-head.ensures.moved.to.0, c.in_ok-clocks.ensures.moved.to.0, c.requires.at_value.0), c.requires.at_value.1)

pub write_mode-requires-clause-spare : goal.write_mode-requires-clause-spare
unfolding sign_of width_of size_of
write_mode-requires-clause-spare c =
    omega (arith, c.in_ok-head.ensures.moved.to, c.in_ok-clocks.ensures.moved.to, c.args.from.placed.behind)

pub returns : goal.returns
unfolding run sign_of width_of size_of
returns c =
    let stop = c.args.stop in
    let head = c.in_ok-head.ensures in
    let clocks = c.in_ok-clocks.ensures in
    λ ed. then_ragged
    (on (head.ran (inside ed stop) mode_names after_mode) (clocks.ran (inside ed stop) time_names (λ _. mode c.in_ok-head.head.last)))
    (omega (arith, head.moved.to, clocks.moved.to))
    (c.write_mode.ensures ed)
