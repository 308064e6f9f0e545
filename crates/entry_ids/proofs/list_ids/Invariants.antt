-- What the loop keeps: of the ids passed each is gathered where it first stands.
-- Assumes nothing.
use Prim.Native.Nat.{◌-◌, ◌*◌}
use lib.ListN.{length}
use Rattle.entry_ids.proofs.Walks.{Kept}
use Rattle.entry_ids.proofs.list_ids.Given as goal

abbrev pub invariant-loop-at : goal.invariant-loop-at
invariant-loop-at l = Kept l.table l.from.body.now l.from.at l.at l.ids.items

abbrev pub decreases-loop-at : goal.decreases-loop-at
decreases-loop-at l = 8 * length l.from.body.now - l.at
