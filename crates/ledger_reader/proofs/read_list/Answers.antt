-- `read_list` goes through the entries that are counted in front of them.
-- Assumes nothing.
use Rattle.format.specs.Lists.{list_id, entry_syntax}
use Rattle.ledger_reader.proofs.Entries.{holds_as, count_there}
use Rattle.ledger_reader.proofs.read_list.Goals as goal

pub returns : goal.returns
returns c =
    let a = c.args in
    holds_as
    (count_there a.edition a.from.ledger.now (entry_syntax (list_id a.table)) a.from.place c.if-from-lt2.false c.get_be-count.ensures)
    c.read_entries.ensures
