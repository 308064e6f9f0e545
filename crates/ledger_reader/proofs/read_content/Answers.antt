-- `read_content` goes through a table and finds nothing over.
-- Assumes nothing.
use borrow.Author.Rules.{rules}
use Rattle.format.specs.Whole.{layout}
use Rattle.ledger_reader.proofs.Entries.{holds_no}
use Rattle.ledger_reader.proofs.Fields.{content_no, content_over, content_held}
use Rattle.ledger_reader.proofs.read_content.Goals as goal

pub returns-in_err-fields : goal.returns-in_err-fields
returns-in_err-fields c =
    let a = c.args in
    holds_no (search rules) (content_no a.edition (layout a.table_id) a.ledger.now c.in_err-fields.ensures.to)

pub returns-then-fields-ledger : goal.returns-then-fields-ledger
returns-then-fields-ledger c =
    let a = c.args in
    rw c.refused_at.ensures
    (record { to = content_over a.edition (layout a.table_id) a.ledger.now c.in_ok-fields.ensures.to c.if-fields-ledger.true })

pub returns : goal.returns
returns c =
    let a = c.args in
    record { to = content_held a.edition (layout a.table_id) a.ledger.now c.in_ok-fields.ensures.to c.if-fields-ledger.false }
