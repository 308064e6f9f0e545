-- `read_satellite` meets its contract: behind each field by the case of its answer.
-- Assumes nothing.
use Rattle.std.proofs.Common.{rules}
use Rattle.format.specs.Tables.{position}
use Rattle.bits.proofs.Answers.{next_place, got_fits}
use Rattle.bits.proofs.Reading.{reading}
use Rattle.format.proofs.Passed.{carried}
use Rattle.position.specs.Satellite.{satellite_at}
use Rattle.position.proofs.Systems.{satellite_got, satellite_cut}
use Rattle.position.proofs.read_satellite.Goals as goal

pub returns-in_err-id : goal.returns-in_err-id
unfolding satellite_at position
returns-in_err-id c = search (reading, carried, c.in_err-id.was, rules)

pub to-requires : goal.to-requires
to-requires c = search (next_place, c.in_ok-id.was, rules)

pub returns-in_err-reserved : goal.returns-in_err-reserved
unfolding satellite_at position
returns-in_err-reserved c =
    let second = rw (c.to.ensures.0, c.to.ensures.1) at c.read_u-2.ensures in
    search (reading, carried, second, c.in_ok-id.was, c.in_err-reserved.was, rules)

pub to-requires-2 : goal.to-requires-2
to-requires-2 c =
    let second = rw (c.to.ensures.0, c.to.ensures.1) at c.read_u-2.ensures in
    search (next_place, second, c.in_ok-reserved.was, rules)

pub returns-in_err-kind : goal.returns-in_err-kind
unfolding satellite_at position
returns-in_err-kind c =
    let second = rw (c.to.ensures.0, c.to.ensures.1) at c.read_u-2.ensures in
    let third = rw (c.to-2.ensures.0, c.to-2.ensures.1) at c.read_u-3.ensures in
    search (reading, carried, second, third, c.in_ok-id.was, c.in_ok-reserved.was, c.in_err-kind.was, rules)

pub to-requires-3 : goal.to-requires-3
to-requires-3 c =
    let third = rw (c.to-2.ensures.0, c.to-2.ensures.1) at c.read_u-3.ensures in
    search (next_place, third, c.in_ok-kind.was, rules)

pub returns-in_err-position : goal.returns-in_err-position
returns-in_err-position c =
    let second = rw (c.to.ensures.0, c.to.ensures.1) at c.read_u-2.ensures in
    let third = rw (c.to-2.ensures.0, c.to-2.ensures.1) at c.read_u-3.ensures in
    let last = rw (c.to-3.ensures.0, c.to-3.ensures.1) at c.read_system.ensures in
    satellite_cut _ _ c.read_u.ensures c.in_ok-id.was second c.in_ok-reserved.was third c.in_ok-kind.was last
    c.in_err-position.was (carried c.from_residual-in_err-position.ensures)

pub overflow_cast-result : goal.overflow_cast-result
overflow_cast-result c = search (got_fits, c.in_ok-id.was, rules)

pub overflow_cast-result-2 : goal.overflow_cast-result-2
overflow_cast-result-2 c = search (got_fits, c.in_ok-reserved.was, rules)

pub returns : goal.returns
returns c =
    let second = rw (c.to.ensures.0, c.to.ensures.1) at c.read_u-2.ensures in
    let third = rw (c.to-2.ensures.0, c.to-2.ensures.1) at c.read_u-3.ensures in
    let last = rw (c.to-3.ensures.0, c.to-3.ensures.1) at c.read_system.ensures in
    satellite_got _ _ c.read_u.ensures c.in_ok-id.was second c.in_ok-reserved.was third c.in_ok-kind.was last
    c.in_ok-position.was
