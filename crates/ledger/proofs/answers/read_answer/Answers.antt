-- `read_answer`: the refusal in the ledger's measure, or what the measure gives.
-- Assumes nothing.
use Rattle.std.proofs.Common.{rules, sym, ◌∙◌}
use Rattle.format.specs.Whole.{id_of}
use Rattle.format.specs.Calls.{read_answer, restored}
use Rattle.ledger_reader.specs.Measured.{measure_of}
use Rattle.ledger.proofs.ByLength.{measure_no, measure_yes}
use Rattle.ledger.proofs.answers.read_answer.Goals as goal

pub returns-in_err-measure : goal.returns-in_err-measure
unfolding read_answer measure_of
returns-in_err-measure c =
    let l = c.args.ledger.now in
    let no = measure_no (id_of l) c.args.room (restored l) (sym c.in_err-measure.was ∙ c.ledger_measure.ensures) in
    search (no, rules)

pub returns : goal.returns
unfolding read_answer measure_of
returns c =
    let l = c.args.ledger.now in
    measure_yes (id_of l) c.args.room (restored l) (sym c.in_ok-measure.was ∙ c.ledger_measure.ensures) c.fitted.ensures
