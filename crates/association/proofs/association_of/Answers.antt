-- `association_of` meets its contract: the clock, and then the parts around it.
-- Assumes nothing.
use Rattle.std.proofs.Common.{rules}
use Rattle.bits.proofs.Answers.{value_fits}
use Rattle.association.proofs.Associations.{clock_refused, all_read}
use Rattle.association.proofs.association_of.Goals as goal

pub returns-in_err-ncr : goal.returns-in_err-ncr
returns-in_err-ncr c = search (clock_refused, rules)

pub overflow_cast-result : goal.overflow_cast-result
overflow_cast-result c = search value_fits

pub overflow_cast-kind : goal.overflow_cast-kind
overflow_cast-kind c = search value_fits

pub returns : goal.returns
returns c = search (all_read, rules)
