-- The table's own reading by its description, and of that the place behind it.
-- Assumes nothing.
use mathlib.Core.Path.{◌∙◌}
use Rattle.format.specs.Tables.{fragment}
use Rattle.fragment.specs.Fragment.{fragment_at, fragment_of}
use Rattle.entries.proofs.Ends.{ends}
use Rattle.entries.proofs.fragment_end.Goals as goal

pub returns : goal.returns
unfolding fragment_at
returns c = c.next_of.ensures ∙ ends c.args.from.body.now fragment c.args.from.at (fragment_of c.args.from.at) c.read_fragment.ensures
