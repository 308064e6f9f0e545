-- The table's own reading by its description, and of that the place behind it.
-- Assumes nothing.
use mathlib.Core.Path.{◌∙◌}
use Rattle.format.specs.Tables.{beamhopping}
use Rattle.plan.specs.Plan.{plan_at, plan_of}
use Rattle.entries.proofs.Ends.{ends}
use Rattle.entries.proofs.plan_end.Goals as goal

pub returns : goal.returns
unfolding plan_at
returns c = c.next_of.ensures ∙ ends c.args.from.body.now beamhopping c.args.from.at (plan_of c.args.from.at) c.read_plan.ensures
