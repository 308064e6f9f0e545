-- `read_next` lends an entry the buffer from where the last one ended.
-- Assumes nothing.
use Rattle.ledger_reader.proofs.Entries.{lent_took}
use Rattle.ledger_reader.proofs.read_next.Goals as goal

pub returns : goal.returns
returns c =
    let a = c.args in
    let w = c.in_ok-entry.ensures.to in record {
      to = record {
        same = w.same;
        took = lent_took a.out.now c.byte_of-start.result a.from.at c.byte_of-start.ensures c.requires.at_value w.took;
      };
    }
