-- `seek_entries` meets its contract: an entry a turn; the law of places says what the loop has seen.
-- Assumes nothing.
use Prim.Native.Nat.{◌-◌, ◌*◌}
use lib.ListN.{length}
use Rattle.format.proofs.StartLaws as laws
use Rattle.format.specs.Lists.{list_id, entry_syntax, least_bits}
use Rattle.format.proofs.NamedLaws.{fine_entry, least_entry, byte_entry}
use Rattle.entries.proofs.seek_entries.Given as goal

abbrev pub invariant-loop-at : goal.invariant-loop-at
invariant-loop-at l =
    laws.Kept (least_bits (list_id l.table)) (entry_syntax (list_id l.table)) (fine_entry l.table) (least_entry l.table)
    (byte_entry l.table) l.from.body.now l.from.at l.index l.at l.count l.place

abbrev pub decreases-loop-at : goal.decreases-loop-at
decreases-loop-at l = 8 * length l.from.body.now - l.at
