-- `read_clock` meets its contract: the fields by the case of their answer, and then the test.
-- Assumes nothing.
use Rattle.std.proofs.Common.{rules}
use Rattle.clocks.proofs.Tested.{read_tested, fields_refused}
use Rattle.clocks.proofs.read_clock.Goals as goal

pub returns-in_err-found : goal.returns-in_err-found
returns-in_err-found c = search (fields_refused, rules)

pub returns : goal.returns
returns c = read_tested _ _ c.args.from.place c.checked.ensures c.take_clock.ensures c.in_ok-found.was
