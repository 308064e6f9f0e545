-- `body_answer`: the refusal in the measure of what an edition keeps, or what the measure gives.
-- Assumes nothing.
use Rattle.std.proofs.Common.{rules, sym, ◌∙◌}
use Rattle.format.specs.Calls.{relaid}
use Rattle.plain_body.specs.Bodies.{body_answer, body_measure}
use Rattle.ledger.proofs.ByLength.{measure_no, measure_yes}
use Rattle.ledger.proofs.answers.body_answer.Goals as goal

pub returns-in_err-measure : goal.returns-in_err-measure
unfolding body_answer body_measure
returns-in_err-measure c =
    let a = c.args in
    let p = relaid a.edition a.table_id a.body.now in
    let no = measure_no a.table_id a.room p (sym c.in_err-measure.was ∙ c.edition_measure.ensures) in
    search (no, rules)

pub returns : goal.returns
unfolding body_answer body_measure
returns c =
    let a = c.args in
    let p = relaid a.edition a.table_id a.body.now in
    measure_yes a.table_id a.room p (sym c.in_ok-measure.was ∙ c.edition_measure.ensures) c.fitted.ensures
