-- `write_answer`: the refusal in the ledger's size, or what the size gives.
-- Assumes nothing.
use Rattle.std.proofs.Common.{rules, sym, ◌∙◌}
use Rattle.format.specs.Calls.{write_answer, filed}
use Rattle.ledger_writer.specs.Written.{size_answer}
use Rattle.ledger.proofs.ByLength.{size_no, size_yes}
use Rattle.ledger.proofs.answers.write_answer.Goals as goal

pub returns-in_err-size : goal.returns-in_err-size
unfolding write_answer size_answer
returns-in_err-size c =
    let a = c.args in
    let p = filed a.edition a.table_id a.body.now in
    let no = size_no a.table_id a.room p (sym c.in_err-size.was ∙ c.ledger_size.ensures) in
    search (no, rules)

pub returns : goal.returns
unfolding write_answer size_answer
returns c =
    let a = c.args in
    let p = filed a.edition a.table_id a.body.now in
    size_yes a.table_id a.room p (sym c.in_ok-size.was ∙ c.ledger_size.ensures) c.fitted.ensures
