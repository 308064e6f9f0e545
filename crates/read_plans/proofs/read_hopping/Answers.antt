-- `read_hopping` goes through what a plan's length counts; the mode takes 16 bits in the ledger and 8 in the body.
-- Assumes nothing.
use mathlib.Core.List.{[], ◌∷◌}
use native.Mathlib.Omega.{arith}
use borrow.Author.Rules.{rules}
use Rattle.format.specs.Syntax.{end}
use Rattle.format.specs.Tables.{mode}
use Rattle.runs.specs.Lines.{sign_of, width_of, size_of, run}
use Rattle.read_runs.specs.Came.{some_way}
use Rattle.read_runs.proofs.CameLaws.{stops, then}
use Rattle.read_runs.proofs.Moved.{run_moved}
use Rattle.write_plans.proofs.Names.{mode_names, time_names, after_mode}
use Rattle.read_plans.proofs.TakenLaws.{spared}
use Rattle.read_plans.proofs.read_hopping.Goals as goal

pub returns-in_err-head-clause-laid : goal.returns-in_err-head-clause-laid
unfolding run sign_of width_of
returns-in_err-head-clause-laid c = λ way. stops (search rules) (c.in_err-head.ensures.laid way mode_names after_mode)

pub returns-in_err-clocks-clause-laid : goal.returns-in_err-clocks-clause-laid
unfolding run sign_of width_of
returns-in_err-clocks-clause-laid c =
    λ way. then (c.in_ok-head.ensures.laid way mode_names after_mode).to
    (stops (search rules) (c.in_err-clocks.ensures.laid way time_names (λ _. mode c.in_ok-head.head.last)))

pub returns-clause-laid : goal.returns-clause-laid
unfolding run sign_of width_of
returns-clause-laid c =
    λ way. then (c.in_ok-head.ensures.laid way mode_names after_mode).to
    (then (c.in_ok-clocks.ensures.laid way time_names (λ _. mode c.in_ok-head.head.last)).to (c.read_mode.ensures way))

pub returns-clause-spared : goal.returns-clause-spared
unfolding sign_of width_of size_of
returns-clause-spared c =
    spared
    (omega (
      arith,
      run_moved (6 ∷ 2 ∷ []) c.args.from.placed.within c.in_ok-head.ensures.laid,
      (c.in_ok-clocks.ensures.laid some_way [] (λ _. end)).to.came.slack,
    ))
    (c.read_mode.ensures some_way)
