-- `write_entries`: an entry more a turn, and the count at the end.
-- Assumes nothing.
use Prim.Native.Nat.{◌-◌, ◌*◌}
use lib.ListN.{length}
use Rattle.ledger_writer.proofs.Listing.{Listing}
use Rattle.ledger_writer.proofs.write_entries.Given as goal

abbrev pub invariant-loop-at : goal.invariant-loop-at
invariant-loop-at l = Listing l.edition l.from.body.now l.table l.from.at l.from.place l.initial.out l.at l.there l.count l.out

abbrev pub decreases-loop-at : goal.decreases-loop-at
decreases-loop-at l = 8 * length l.from.body.now - l.at
