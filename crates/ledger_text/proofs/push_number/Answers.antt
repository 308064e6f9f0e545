-- `push_number` adds a space and a number's digits.
-- Assumes nothing.
use Rattle.ledger_text.proofs.Lines.{number_added}
use Rattle.ledger_text.proofs.push_number.Goals as goal

pub returns-clause-text : goal.returns-clause-text
returns-clause-text c = number_added _ _ _ _ c.push.ensures.items c.push_digits.ensures.text
