-- `read_elements` meets its contract: by the test that all of them are there.
-- Assumes nothing.
use Rattle.std.proofs.Common.{rules}
use Rattle.format.proofs.Passed.{carried}
use Rattle.bit_reader.proofs.Reading.{groups, enough_room}
use Rattle.position.specs.Satellite.{elements_at}
use Rattle.position.proofs.read_elements.Goals as goal

pub returns-in_err-enough : goal.returns-in_err-enough
unfolding elements_at
returns-in_err-enough c = search (groups, carried, c.in_err-enough.was, rules)

pub elements_at-requires : goal.elements_at-requires
elements_at-requires c = search (enough_room, c.in_ok-enough.was, rules)
