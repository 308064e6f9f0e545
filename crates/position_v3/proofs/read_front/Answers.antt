-- `read_front` meets its contract: the id, the reserved bits, the metadata's flag, and the other flags by what
-- `read_flags` answers.
-- Assumes nothing.
use mathlib.Core.Path.{◌∙◌}
use Rattle.std.proofs.Common.{rules}
use Rattle.bits.proofs.Answers.{next_place, got_fits}
use Rattle.bits.proofs.Reading.{reading}
use Rattle.format.proofs.Passed.{carried}
use Rattle.position_v3.specs.PositionV3.{front_at}
use Rattle.position_v3.proofs.Fronts.{flags_got, flags_cut}
use Rattle.position_v3.proofs.read_front.Goals as goal

pub returns-in_err-id : goal.returns-in_err-id
unfolding front_at
returns-in_err-id c = search (reading, carried, c.in_err-id.was, rules)

pub to-requires : goal.to-requires
to-requires c = next_place _ 24 c.in_ok-id.was c.read_u.ensures c.args.from.place.short

pub returns-in_err-reserved : goal.returns-in_err-reserved
unfolding front_at
returns-in_err-reserved c =
    let second = rw (c.to.ensures.0, c.to.ensures.1) at c.read_u-2.ensures in
    search (reading, carried, second, c.in_ok-id.was, c.in_err-reserved.was, rules)

pub to-requires-2 : goal.to-requires-2
to-requires-2 c =
    let second = rw (c.to.ensures.0, c.to.ensures.1) at c.read_u-2.ensures in
    next_place _ 3 c.in_ok-reserved.was second c.args.from.place.short

pub returns-in_err-metadata : goal.returns-in_err-metadata
unfolding front_at
returns-in_err-metadata c =
    let second = rw (c.to.ensures.0, c.to.ensures.1) at c.read_u-2.ensures in
    let third = rw (c.to-2.ensures.0, c.to-2.ensures.1) at c.read_u-3.ensures in
    search (reading, carried, second, third, c.in_ok-id.was, c.in_ok-reserved.was, c.in_err-metadata.was, rules)

pub to-requires-3 : goal.to-requires-3
to-requires-3 c =
    let third = rw (c.to-2.ensures.0, c.to-2.ensures.1) at c.read_u-3.ensures in
    next_place _ 1 c.in_ok-metadata.was third c.args.from.place.short

pub returns-in_err-flags : goal.returns-in_err-flags
returns-in_err-flags c =
    let second = rw (c.to.ensures.0, c.to.ensures.1) at c.read_u-2.ensures in
    let third = rw (c.to-2.ensures.0, c.to-2.ensures.1) at c.read_u-3.ensures in
    let flags = rw (c.to-3.ensures.0, c.to-3.ensures.1) at c.read_flags.ensures in
    carried c.from_residual-in_err-flags.ensures
    ∙ flags_cut _ _ c.read_u.ensures c.in_ok-id.was second c.in_ok-reserved.was third c.in_ok-metadata.was
    flags c.in_err-flags.was

pub overflow_cast-result : goal.overflow_cast-result
overflow_cast-result c = got_fits _ _ 24 c.in_ok-id.was c.read_u.ensures tt

pub overflow_cast-result-2 : goal.overflow_cast-result-2
overflow_cast-result-2 c = got_fits _ _ 3 c.in_ok-reserved.was c.read_u-2.ensures tt

pub returns : goal.returns
returns c =
    let second = rw (c.to.ensures.0, c.to.ensures.1) at c.read_u-2.ensures in
    let third = rw (c.to-2.ensures.0, c.to-2.ensures.1) at c.read_u-3.ensures in
    let flags = rw (c.to-3.ensures.0, c.to-3.ensures.1) at c.read_flags.ensures in
    flags_got _ _ c.read_u.ensures c.in_ok-id.was second c.in_ok-reserved.was third c.in_ok-metadata.was
    flags c.in_ok-flags.was
