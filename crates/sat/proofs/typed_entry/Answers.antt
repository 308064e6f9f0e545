-- The entry by the id, each from its own reader.
-- Assumes nothing.
use mathlib.Core.Path.{◌∙◌}
use native.Mathlib.Omega.{arith}
use Rattle.format.proofs.Passed.{carried}
use Rattle.sat.proofs.Made.{raw_entry}
use Rattle.sat.proofs.Typed.{satellite_typed, fragment_typed, association_typed, plan_typed, satellite_v3_typed}
use Rattle.sat.proofs.typed_entry.Goals as goal

pub returns-in_err-read_satellite-in-0 : goal.returns-in_err-read_satellite-in-0
returns-in_err-read_satellite-in-0 c =
    carried c.from_residual.ensures
    ∙ satellite_typed _ _ _ c.in-0.is c.read_satellite.ensures c.in_err-read_satellite-in-0.was

pub returns-in_ok-read_satellite-in-0 : goal.returns-in_ok-read_satellite-in-0
returns-in_ok-read_satellite-in-0 c =
    satellite_typed _ _ _ c.in-0.is c.read_satellite.ensures c.in_ok-read_satellite-in-0.was

pub returns-in_err-read_fragment-in-1 : goal.returns-in_err-read_fragment-in-1
returns-in_err-read_fragment-in-1 c =
    carried c.from_residual-in_err-read_fragment-in-1.ensures
    ∙ fragment_typed _ _ _ c.in-1.is c.read_fragment.ensures c.in_err-read_fragment-in-1.was

pub returns-in_ok-read_fragment-in-1 : goal.returns-in_ok-read_fragment-in-1
returns-in_ok-read_fragment-in-1 c =
    fragment_typed _ _ _ c.in-1.is c.read_fragment.ensures c.in_ok-read_fragment-in-1.was

pub returns-in_err-read_association-in-2 : goal.returns-in_err-read_association-in-2
returns-in_err-read_association-in-2 c =
    carried c.from_residual-in_err-read_association-in-2.ensures
    ∙ association_typed _ _ _ c.in-2.is (c.requires.1 c.in-2.is) c.read_association.ensures c.in_err-read_association-in-2.was

pub returns-in_ok-read_association-in-2 : goal.returns-in_ok-read_association-in-2
returns-in_ok-read_association-in-2 c =
    association_typed _ _ _ c.in-2.is (c.requires.1 c.in-2.is) c.read_association.ensures c.in_ok-read_association-in-2.was

pub returns-in_err-read_plan-in-3 : goal.returns-in_err-read_plan-in-3
returns-in_err-read_plan-in-3 c =
    carried c.from_residual-in_err-read_plan-in-3.ensures
    ∙ plan_typed _ _ _ c.in-3.is c.read_plan.ensures c.in_err-read_plan-in-3.was

pub returns-in_ok-read_plan-in-3 : goal.returns-in_ok-read_plan-in-3
returns-in_ok-read_plan-in-3 c =
    plan_typed _ _ _ c.in-3.is c.read_plan.ensures c.in_ok-read_plan-in-3.was

pub returns-in_err-read_satellite_v3-in-4 : goal.returns-in_err-read_satellite_v3-in-4
returns-in_err-read_satellite_v3-in-4 c =
    carried c.from_residual-in_err-read_satellite_v3-in-4.ensures
    ∙ satellite_v3_typed _ _ _ c.in-4.is c.read_satellite_v3.ensures c.in_err-read_satellite_v3-in-4.was

pub returns-in_ok-read_satellite_v3-in-4 : goal.returns-in_ok-read_satellite_v3-in-4
returns-in_ok-read_satellite_v3-in-4 c =
    satellite_v3_typed _ _ _ c.in-4.is c.read_satellite_v3.ensures c.in_ok-read_satellite_v3-in-4.was

pub returns-in_default : goal.returns-in_default
returns-in_default c =
    rw c.raw_part.ensures
    (raw_entry c.args.table_id c.args.from.body.now c.args.from.at
    (omega arith) (omega arith) (omega arith) (omega arith) (omega arith))
