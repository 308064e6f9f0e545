-- Table id 3: a plan from its fields, each by its name.
-- Assumes nothing: these are definitions.
use Rattle.std.specs.Prelude.{ℕ, ◌-◌, cond, List, leb, Result, Err}
use Rattle.format.specs.Refusals.{refuse}
use Rattle.format.specs.Syntax.{Field}
use Rattle.format.specs.Tables.{beamhopping, hopping}
use Rattle.format.specs.ByName.{the}
use Rattle.format.specs.At.{read, found_at}
use Rattle.format.specs.declared.Refusal.{Refusal}
use Rattle.format.specs.declared.Found.{Found}
use Rattle.format.specs.declared.Fault.TheVariants.{PlanOverrun}
use Rattle.clocks.specs.Clocks.{clock_by}
use Rattle.clocks.specs.declared.Clock.{Clock}
use Rattle.plan_modes.specs.Modes.{plan_mode, mode_by}
use Rattle.plan_modes.specs.declared.BeamhoppingMode.{BeamhoppingMode}
use Rattle.plan.specs.declared.BeamhoppingPlan.{BeamhoppingPlan}
use Rattle.plan.specs.declared.PlanHead.{PlanHead}

-- ---- a plan from its fields

-- from what its parts were read as
abbrev pub plan_made : PlanHead → ℕ → ℕ → Clock → Clock → BeamhoppingMode → BeamhoppingPlan
plan_made h r m application cycle md = record {
  beamhopping_time_plan_id = h.id;
  time_plan_mode = plan_mode m;
  time_of_application_base = application.base;
  time_of_application_ext = application.ext;
  cycle_duration_base = cycle.base;
  cycle_duration_ext = cycle.ext;
  mode = md;
  reserved_zero_future_use_4 = h.reserved;
  reserved_zero_future_use_mode = r;
  time_of_application_reserved_zero_future_use = application.reserved;
  cycle_duration_reserved_zero_future_use = cycle.reserved;
  plan_length = h.plan_length;
}

-- behind its head; p: the place at which the fields there start
unfoldable pub plan_from : PlanHead → ℕ → List Field → BeamhoppingPlan
plan_from h p ts =
    plan_made h
    (the "reserved_zero_future_use_mode" ts)
    (the "time_plan_mode" ts)
    (clock_by "time_of_application" ts)
    (clock_by "cycle_duration" ts)
    (mode_by p (the "time_plan_mode" ts) ts)

-- all of it
unfoldable pub plan_of : ℕ → List Field → BeamhoppingPlan
plan_of p ts =
    plan_from
    (record {
      id = the "beamhopping_time_plan_id" ts;
      reserved =
          the "reserved_zero_future_use_4" ts;
      plan_length = the "plan_length" ts;
    })
    p ts

-- a plan whose fields end at n: refused by 14 where that is past the plan's end e; else reading goes on at e, or at the
-- data's end
unfoldable pub plan_closed : BeamhoppingPlan → ℕ → ℕ → ℕ → Result (Found BeamhoppingPlan) Refusal
plan_closed p n e all = cond (leb n e) (found_at p (cond (leb e all) e all)) (Err (refuse PlanOverrun (n - e) 0))

-- ---- what is at a place

-- a plan, and behind its head
unfoldable pub plan_at : List ℕ → ℕ → Result (Found BeamhoppingPlan) Refusal
plan_at b p = read b 0 beamhopping p (λ ts q. found_at (plan_of p ts) q) Err

unfoldable pub fields_at : List ℕ → ℕ → PlanHead → ℕ → Result (Found BeamhoppingPlan) Refusal
fields_at b e h p = read b e hopping p (λ ts q. found_at (plan_from h p ts) q) Err
