-- `write_plan` goes through a plan.
-- Assumes nothing.
use Prim.Native.Nat.{ℕ}
use native.Mathlib.Omega.{arith}
use Rattle.format.specs.Syntax.{Syntax, plan}
use Rattle.format.specs.Tables.{hopping, beamhopping}
use Rattle.runs.specs.Lines.{sign_of, width_of, size_of, run}
use Rattle.format.proofs.Passed.{carried}
use Rattle.write_runs.proofs.WentLaws.{stops, on}
use Rattle.write_plans.proofs.Names.{plan_names}
use Rattle.write_plans.proofs.write_plan.Goals as goal

abbrev rest : ℕ → Syntax
rest v = plan "plan_length" hopping

pub returns-in_err-head : goal.returns-in_err-head
unfolding beamhopping run sign_of width_of
returns-in_err-head c = rw (carried c.from_residual.ensures) (stops (c.in_err-head.ensures.ran _ plan_names rest))

pub write_ended-requires : goal.write_ended-requires
unfolding width_of size_of
write_ended-requires c = record { at_value = omega (arith, c.in_ok-head.ensures.moved.to.0, c.requires.at_value) }

pub returns : goal.returns
unfolding beamhopping run sign_of width_of
returns c = on (c.in_ok-head.ensures.ran _ plan_names rest) c.write_ended.ensures
