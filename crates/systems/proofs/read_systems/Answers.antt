-- `read_systems` meets its contract: the list, and then its clocks, one a turn.
-- Assumes nothing.
use Rattle.std.proofs.Common.{◌+◌, ◌*◌, ◌≤◌, length, ◌∙◌, arith}
use Rattle.parts.proofs.Lists.{listed}
use Rattle.format.proofs.Passed.{carried}
use Rattle.systems.proofs.Lists.{turn, stop, done, refused_alone, tested_alone}
use Rattle.systems.proofs.read_systems.Goals as goal

pub returns-in_err-list : goal.returns-in_err-list
returns-in_err-list c = refused_alone _ _ _ c.args.from.place c.read_part.ensures c.in_err-list.was (carried c.from_residual.ensures)

pub overflow_mul-at : goal.overflow_mul-at
overflow_mul-at c =
    let l = listed _ _ 80 _ c.args.from.place c.read_part.ensures c.in_ok-list.was in
    let inside : c.args.from.at + 10 + 80 * c.loop-i.i + 80 ≤ 8 * length c.args.from.body.now = omega (arith, l.next, l.within) in
    record { fits = omega (arith, c.args.from.place.short) }

pub overflow_add-at-in-loop-i : goal.overflow_add-at-in-loop-i
overflow_add-at-in-loop-i c =
    let l = listed _ _ 80 _ c.args.from.place c.read_part.ensures c.in_ok-list.was in
    let inside : c.args.from.at + 10 + 80 * c.loop-i.i + 80 ≤ 8 * length c.args.from.body.now = omega (arith, l.next, l.within) in
    record { fits = omega (arith, c.args.from.place.short) }

pub overflow_add-at-in-loop-i-2 : goal.overflow_add-at-in-loop-i-2
overflow_add-at-in-loop-i-2 c =
    let l = listed _ _ 80 _ c.args.from.place c.read_part.ensures c.in_ok-list.was in
    let inside : c.args.from.at + 10 + 80 * c.loop-i.i + 80 ≤ 8 * length c.args.from.body.now = omega (arith, l.next, l.within) in
    record { fits = omega (arith, c.args.from.place.short) }

pub overflow_cast-at-in-loop-i : goal.overflow_cast-at-in-loop-i
overflow_cast-at-in-loop-i c =
    let l = listed _ _ 80 _ c.args.from.place c.read_part.ensures c.in_ok-list.was in
    let inside : c.args.from.at + 10 + 80 * c.loop-i.i + 80 ≤ 8 * length c.args.from.body.now = omega (arith, l.next, l.within) in
    record { fits = omega (arith, c.args.from.place.short) }

pub to-requires : goal.to-requires
to-requires c =
    let l = listed _ _ 80 _ c.args.from.place c.read_part.ensures c.in_ok-list.was in
    let inside : c.args.from.at + 10 + 80 * c.loop-i.i + 80 ≤ 8 * length c.args.from.body.now = omega (arith, l.next, l.within) in
    record { short = c.args.from.place.short; within = omega arith }

pub clock_within-requires : goal.clock_within-requires
clock_within-requires c =
    let l = listed _ _ 80 _ c.args.from.place c.read_part.ensures c.in_ok-list.was in
    let inside : c.args.from.at + 10 + 80 * c.loop-i.i + 80 ≤ 8 * length c.args.from.body.now = omega (arith, l.next, l.within) in
    record { short = c.to.result.place.short; fits = rw (c.to.ensures.0, c.to.ensures.1) (omega arith) }

pub returns-in_err-clock_within : goal.returns-in_err-clock_within
returns-in_err-clock_within c =
    tested_alone _ _ _ c.args.from.place c.read_part.ensures c.in_ok-list.was
    (carried c.from_residual-in_err-clock_within.ensures
    ∙ stop _ _ _ _ c.loop-i.invariant (omega arith) (rw (c.to.ensures.0, c.to.ensures.1) at c.clock_within.ensures) c.in_err-clock_within.was)

pub loop-i-preserved : goal.loop-i-preserved
loop-i-preserved c = turn _ _ _ _ c.loop-i.invariant (omega arith) (rw (c.to.ensures.0, c.to.ensures.1) at c.clock_within.ensures) c.in_ok-clock_within.was

pub returns : goal.returns
returns c =
    tested_alone _ _ _ c.args.from.place c.read_part.ensures c.in_ok-list.was (done _ _ _ _ c.loop-i.invariant (omega arith))
