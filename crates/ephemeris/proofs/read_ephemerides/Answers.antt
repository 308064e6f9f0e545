-- `read_ephemerides` meets its contract: the count, and the room for the entries.
-- Assumes nothing.
use mathlib.Core.Path.{◌∙◌}
use native.Mathlib.Omega.{arith}
use Rattle.bits.proofs.Answers.{Got, got_all, cut_all, got_lt}
use Rattle.ephemeris.proofs.Entries.{uncounted_answer, listed_answer, short_answer, width_bits, entries_small}
use Rattle.format.proofs.Passed.{carried}
use Rattle.ephemeris.proofs.read_ephemerides.Goals as goal
use Rattle.ephemeris.proofs.read_ephemerides.Goals.{In_ok-counted}

-- the count that was read
counted : (c : In_ok-counted) → let a = c.args in
    Got a.from.body.now a.from.at 16 c.in_ok-counted.counted
counted c = got_all _ _ 16 c.read_u.ensures c.in_ok-counted.was

pub returns-in_err-counted : goal.returns-in_err-counted
returns-in_err-counted c =
    let a = c.args in
    let o = cut_all _ a.from.at 16 _ c.read_u.ensures c.in_err-counted.was in
    carried c.from_residual.ensures ∙ uncounted_answer a.from.body.now _ a.from.at o a.from.place.within

pub overflow_mul-need : goal.overflow_mul-need
overflow_mul-need c =
    let l = got_lt _ _ 16 c.in_ok-counted.was c.read_u.ensures in
    let w = width_bits c.args.accel c.entry_bits-size.ensures in
    record { fits = omega (arith, entries_small _ l w) }

pub overflow_sub-have : goal.overflow_sub-have
overflow_sub-have c =
    omega (
      arith,
      (counted (goal.at.overflow_sub-have c).In_ok-counted).there,
      (counted (goal.at.overflow_sub-have c).In_ok-counted).next,
    )

pub returns-then-have-need : goal.returns-then-have-need
returns-then-have-need c =
    let g = counted (goal.at.returns-then-have-need c).In_ok-counted in
    let a = c.args in
    short_answer a.from.body.now _ a.from.at g (width_bits a.accel c.entry_bits-size.ensures) c.if-have-need.true

pub returns : goal.returns
returns c =
    let g = counted (goal.at.returns c).In_ok-counted in
    let a = c.args in
    listed_answer a.from.body.now _ a.from.at g (width_bits a.accel c.entry_bits-size.ensures) c.if-have-need.false
