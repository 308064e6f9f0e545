-- `with_centre` meets its contract: by the test that the centre is there.
-- Assumes nothing.
use Rattle.std.proofs.Common.{rules}
use Rattle.format.proofs.Passed.{carried}
use Rattle.bit_reader.proofs.Reading.{groups, enough_room}
use Rattle.fragment.specs.Inner.{with_at}
use Rattle.fragment.proofs.Steps.{with_lists}
use Rattle.fragment.proofs.with_centre.Goals as goal

pub returns-in_err-enough : goal.returns-in_err-enough
unfolding with_at
returns-in_err-enough c = search (groups, carried, c.in_err-enough.was, rules)

pub centre_at-requires : goal.centre_at-requires
centre_at-requires c = enough_room _ _ 76 _ c.enough.ensures c.in_ok-enough.was c.args.from.place

pub to-requires : goal.to-requires
to-requires c =
    let there = enough_room _ _ 76 _ c.enough.ensures c.in_ok-enough.was c.args.from.place in
    record { short = there.short; within = there.fits }

pub returns : goal.returns
returns c =
    with_lists _ _ _ _ (enough_room _ _ 76 _ c.enough.ensures c.in_ok-enough.was c.args.from.place) c.centre_at.ensures
    (rw (c.to.ensures.0, c.to.ensures.1) at c.around_lists.ensures)
