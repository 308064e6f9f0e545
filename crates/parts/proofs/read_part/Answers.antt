-- `read_part` meets its contract, by the case of the count and the test of what it counts.
-- Assumes nothing.
use Rattle.std.proofs.Common.{arith, rules}
use native.Mathlib.Nat.{mul-le-mul_left}
use Rattle.format.specs.ByName.{first_by}
use Rattle.bits.proofs.Answers.{got_lt, next_place}
use Rattle.bits.proofs.Reading.{reading}
use Rattle.format.proofs.Passed.{carried}
use Rattle.bit_reader.proofs.Reading.{groups, enough_room}
use Rattle.parts.specs.Parts.{part_at}
use Rattle.parts.proofs.read_part.Goals as goal

pub returns-in_err-found : goal.returns-in_err-found
unfolding part_at
returns-in_err-found c = search (reading, carried, c.in_err-found.was, rules)

pub overflow_mul-size : goal.overflow_mul-size
overflow_mul-size c =
    let v = got_lt _ _ 10 c.in_ok-found.was c.read_u.ensures in
    record { fits = omega (arith, v, mul-le-mul_left c.in_ok-found.found.value c.requires) }

pub to-requires : goal.to-requires
to-requires c = next_place _ 10 c.in_ok-found.was c.read_u.ensures c.args.from.place.short

pub returns-in_err-enough : goal.returns-in_err-enough
unfolding part_at first_by
returns-in_err-enough c =
    let tested = rw (c.to.ensures.0, c.to.ensures.1) at c.enough.ensures in
    search (reading, groups, carried, tested, c.in_ok-found.was, c.in_err-enough.was, rules)

pub overflow_add-result : goal.overflow_add-result
overflow_add-result c =
    let all_there = enough_room _ _ _ _ c.enough.ensures c.in_ok-enough.was c.to.result.place in
    record { fits = omega (arith, c.to.ensures) }

pub overflow_cast-result-3 : goal.overflow_cast-result-3
overflow_cast-result-3 c =
    let all_there = enough_room _ _ _ _ c.enough.ensures c.in_ok-enough.was c.to.result.place in
    record { fits = omega (arith, c.to.ensures) }

pub returns : goal.returns
unfolding part_at first_by
returns c =
    let tested = rw (c.to.ensures.0, c.to.ensures.1) at c.enough.ensures in
    search (reading, groups, tested, c.in_ok-found.was, c.in_ok-enough.was, rules)
