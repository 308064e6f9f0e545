-- `read_entries` goes through an entry a turn, and those before i are laid.
-- Assumes nothing.
use Rattle.format.specs.Lists.{list_id, entry_syntax}
use Rattle.ledger_reader.proofs.Entries.{Counting}
use Rattle.ledger_reader.proofs.read_entries.Given as goal

abbrev pub invariant-loop-i : goal.invariant-loop-i
invariant-loop-i l = Counting l.edition (entry_syntax (list_id l.table)) l.from l.count l.initial.out l.step l.i l.out
