-- `convert_measure` is the measure without the ledger's edition.
-- Assumes nothing.
use borrow.Author.Rules.{rules}
use Rattle.ledger_converter.specs.Measure.{convert_measure}
use Rattle.ledger_converter.proofs.convert_measure.Goals as goal

pub returns-in_err-measure_in : goal.returns-in_err-measure_in
unfolding convert_measure
returns-in_err-measure_in c = search rules

pub returns : goal.returns
unfolding convert_measure
returns c = c.in_ok-measure_in.ensures.to.1
