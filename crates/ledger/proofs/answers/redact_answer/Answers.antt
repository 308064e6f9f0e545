-- `redact_answer`: the refusal in the measure of a copy, or what the measure gives.
-- Assumes nothing.
use Rattle.std.proofs.Common.{rules, sym, ◌∙◌}
use Rattle.format.specs.Whole.{id_of}
use Rattle.format.specs.Redact.{redacted, redact_answer}
use Rattle.ledger_redactor.specs.Measure.{redact_measure}
use Rattle.ledger.proofs.ByLength.{measure_no, measure_yes}
use Rattle.ledger.proofs.answers.redact_answer.Goals as goal

pub returns-in_err-measure : goal.returns-in_err-measure
unfolding redact_answer redact_measure
returns-in_err-measure c =
    let l = c.args.ledger.now in
    let no = measure_no (id_of l) c.args.room (redacted l) (sym c.in_err-measure.was ∙ c.redact_measure.ensures) in
    search (no, rules)

pub returns : goal.returns
unfolding redact_answer redact_measure
returns c =
    let l = c.args.ledger.now in
    measure_yes (id_of l) c.args.room (redacted l) (sym c.in_ok-measure.was ∙ c.redact_measure.ensures) c.fitted.ensures
