-- The two tests, and then the whole.
-- Assumes nothing.
use Rattle.std.proofs.Common.{rules, arith}
use Rattle.association.proofs.Associations.{none_there, too_few}
use Rattle.bit_reader.proofs.Reading.{enough_room}
use Rattle.association.proofs.read_association.Goals as goal

pub returns-in_err-enough : goal.returns-in_err-enough
returns-in_err-enough c =
    let one = rw (c.start-from.ensures.0, c.start-from.ensures.1) at c.enough.ensures in
    search (none_there, one, rules)

pub returns-in_err-enough-2 : goal.returns-in_err-enough-2
returns-in_err-enough-2 c =
    let one = rw (c.start-from.ensures.0, c.start-from.ensures.1) at c.enough.ensures in
    let all = rw (c.start-from.ensures.0, c.start-from.ensures.1) at c.enough-2.ensures in
    search (too_few, one, all, rules)

pub association_of-requires : goal.association_of-requires
association_of-requires c =
    let all = rw (c.start-from.ensures.0, c.start-from.ensures.1) at c.enough-2.ensures in
    enough_room _ _ _ _ all c.in_ok-enough-2.was (record { short = c.requires; within = omega arith })
