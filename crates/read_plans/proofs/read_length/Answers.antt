-- `read_length`: a run of one field in the second edition, and nothing in the first.
-- Assumes nothing.
use mathlib.Core.List.{[], ◌∷◌}
use Rattle.runs.specs.Lines.{sign_of, width_of, run}
use Rattle.read_plans.proofs.OpenLaws.{ahead_of}
use Rattle.read_plans.proofs.read_length.Goals as goal

pub returns-in-Second : goal.returns-in-Second
unfolding run sign_of width_of
returns-in-Second c =
    let laid = c.read_run.ensures.laid in
    rw c.in-Second.is (record { to = (λ way k. laid way ("plan_length" ∷ []) (λ _. k), ahead_of _ c.args.from.placed.within laid) })
