-- `convert_answer`: the refusal in the measure of a conversion, or what the measure gives.
-- Assumes nothing.
use Rattle.std.proofs.Common.{rules, sym, ◌∙◌}
use Rattle.format.specs.Whole.{id_of}
use Rattle.format.specs.Convert.{converted, convert_answer}
use Rattle.ledger_converter.specs.Measure.{convert_measure}
use Rattle.ledger.proofs.ByLength.{measure_no, measure_yes}
use Rattle.ledger.proofs.answers.convert_answer.Goals as goal

pub returns-in_err-measure : goal.returns-in_err-measure
unfolding convert_answer convert_measure
returns-in_err-measure c =
    let l = c.args.ledger.now in
    let p = converted c.args.edition l in
    let no = measure_no (id_of l) c.args.room p (sym c.in_err-measure.was ∙ c.convert_measure.ensures) in
    search (no, rules)

pub returns : goal.returns
unfolding convert_answer convert_measure
returns c =
    let l = c.args.ledger.now in
    let p = converted c.args.edition l in
    measure_yes (id_of l) c.args.room p (sym c.in_ok-measure.was ∙ c.convert_measure.ensures) c.fitted.ensures
