-- `read_fragment` meets its contract: behind each field by the case of its answer, and then by the first flag.
-- Assumes nothing.
use Rattle.std.proofs.Common.{rules}
use Rattle.format.specs.Tables.{fragment}
use Rattle.bits.proofs.Answers.{next_place, got_fits}
use Rattle.bits.proofs.Reading.{reading}
use Rattle.format.proofs.Passed.{carried}
use Rattle.fragment.specs.Fragment.{fragment_at}
use Rattle.fragment.proofs.Steps.{head, fragment_with, fragment_without}
use Rattle.fragment.proofs.read_fragment.Goals as goal

pub returns-in_err-id : goal.returns-in_err-id
unfolding fragment_at fragment
returns-in_err-id c = search (reading, carried, c.in_err-id.was, rules)

pub to-requires : goal.to-requires
to-requires c = search (next_place, c.in_ok-id.was, rules)

pub returns-in_err-first : goal.returns-in_err-first
unfolding fragment_at fragment
returns-in_err-first c =
    let second = rw (c.to.ensures.0, c.to.ensures.1) at c.read_u-2.ensures in
    search (reading, carried, second, c.in_ok-id.was, c.in_err-first.was, rules)

pub to-requires-2 : goal.to-requires-2
to-requires-2 c =
    let second = rw (c.to.ensures.0, c.to.ensures.1) at c.read_u-2.ensures in
    search (next_place, second, c.in_ok-first.was, rules)

pub returns-in_err-last : goal.returns-in_err-last
unfolding fragment_at fragment
returns-in_err-last c =
    let second = rw (c.to.ensures.0, c.to.ensures.1) at c.read_u-2.ensures in
    let third = rw (c.to-2.ensures.0, c.to-2.ensures.1) at c.read_u-3.ensures in
    search (reading, carried, second, third, c.in_ok-id.was, c.in_ok-first.was, c.in_err-last.was, rules)

pub to-rest-requires : goal.to-rest-requires
to-rest-requires c =
    let third = rw (c.to-2.ensures.0, c.to-2.ensures.1) at c.read_u-3.ensures in
    search (next_place, third, c.in_ok-last.was, rules)

pub overflow_cast-id : goal.overflow_cast-id
overflow_cast-id c = search (got_fits, c.in_ok-id.was, rules)

pub overflow_cast-id-else-first-eq1 : goal.overflow_cast-id-else-first-eq1
overflow_cast-id-else-first-eq1 c = search (got_fits, c.in_ok-id.was, rules)

pub returns-then-first-eq1 : goal.returns-then-first-eq1
returns-then-first-eq1 c =
    let second = rw (c.to.ensures.0, c.to.ensures.1) at c.read_u-2.ensures in
    let third = rw (c.to-2.ensures.0, c.to-2.ensures.1) at c.read_u-3.ensures in
    let h = head _ _ _ _ _ c.read_u.ensures c.in_ok-id.was second c.in_ok-first.was third c.in_ok-last.was in
    fragment_with _ _ _ _ _ h c.if-first-eq1.true (rw (c.to-rest.ensures.0, c.to-rest.ensures.1) at c.with_centre.ensures)

pub returns-else-first-eq1 : goal.returns-else-first-eq1
returns-else-first-eq1 c =
    let second = rw (c.to.ensures.0, c.to.ensures.1) at c.read_u-2.ensures in
    let third = rw (c.to-2.ensures.0, c.to-2.ensures.1) at c.read_u-3.ensures in
    let h = head _ _ _ _ _ c.read_u.ensures c.in_ok-id.was second c.in_ok-first.was third c.in_ok-last.was in
    fragment_without _ _ _ _ _ h c.if-first-eq1.false (rw (c.to-rest.ensures.0, c.to-rest.ensures.1) at c.without_centre.ensures)
