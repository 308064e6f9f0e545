-- `redact_measure` is the measure without the ledger's edition.
-- Assumes nothing.
use borrow.Author.Rules.{rules}
use Rattle.ledger_redactor.specs.Measure.{redact_measure}
use Rattle.ledger_redactor.proofs.redact_measure.Goals as goal

pub returns-in_err-measure_copy : goal.returns-in_err-measure_copy
unfolding redact_measure
returns-in_err-measure_copy c = search rules

pub returns : goal.returns
unfolding redact_measure
returns c = c.in_ok-measure_copy.ensures.to.1
