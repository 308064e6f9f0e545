-- `read_flags` meets its contract, flag by flag.
-- Assumes nothing.
use Rattle.std.proofs.Common.{rules}
use Rattle.format.specs.ByName.{first_by}
use Rattle.bits.proofs.Answers.{next_place}
use Rattle.bits.proofs.Reading.{reading}
use Rattle.format.proofs.Passed.{carried}
use Rattle.position_v3.specs.PositionV3.{flags_at}
use Rattle.position_v3.proofs.read_flags.Goals as goal

pub returns-in_err-start : goal.returns-in_err-start
unfolding flags_at
returns-in_err-start c = search (reading, carried, c.in_err-start.was, rules)

pub to-requires : goal.to-requires
to-requires c = next_place _ 1 c.in_ok-start.was c.read_u.ensures c.args.from.place.short

pub returns-in_err-stop : goal.returns-in_err-stop
unfolding flags_at
returns-in_err-stop c =
    let second = rw (c.to.ensures.0, c.to.ensures.1) at c.read_u-2.ensures in
    search (reading, carried, second, c.in_ok-start.was, c.in_err-stop.was, rules)

pub to-requires-2 : goal.to-requires-2
to-requires-2 c =
    let second = rw (c.to.ensures.0, c.to.ensures.1) at c.read_u-2.ensures in
    next_place _ 1 c.in_ok-stop.was second c.args.from.place.short

pub returns-in_err-accel : goal.returns-in_err-accel
unfolding flags_at
returns-in_err-accel c =
    let second = rw (c.to.ensures.0, c.to.ensures.1) at c.read_u-2.ensures in
    let third = rw (c.to-2.ensures.0, c.to-2.ensures.1) at c.read_u-3.ensures in
    search (reading, carried, second, third, c.in_ok-start.was, c.in_ok-stop.was, c.in_err-accel.was, rules)

pub to-requires-3 : goal.to-requires-3
to-requires-3 c =
    let third = rw (c.to-2.ensures.0, c.to-2.ensures.1) at c.read_u-3.ensures in
    next_place _ 1 c.in_ok-accel.was third c.args.from.place.short

pub returns-in_err-covariance : goal.returns-in_err-covariance
unfolding flags_at
returns-in_err-covariance c =
    let second = rw (c.to.ensures.0, c.to.ensures.1) at c.read_u-2.ensures in
    let third = rw (c.to-2.ensures.0, c.to-2.ensures.1) at c.read_u-3.ensures in
    let fourth = rw (c.to-3.ensures.0, c.to-3.ensures.1) at c.read_u-4.ensures in
    search (
      reading,
      carried,
      second,
      third,
      fourth,
      c.in_ok-start.was,
      c.in_ok-stop.was,
      c.in_ok-accel.was,
      c.in_err-covariance.was,
      rules,
    )

pub returns : goal.returns
unfolding flags_at first_by
returns c =
    let second = rw (c.to.ensures.0, c.to.ensures.1) at c.read_u-2.ensures in
    let third = rw (c.to-2.ensures.0, c.to-2.ensures.1) at c.read_u-3.ensures in
    let fourth = rw (c.to-3.ensures.0, c.to-3.ensures.1) at c.read_u-4.ensures in
    search (
      reading,
      second,
      third,
      fourth,
      c.in_ok-start.was,
      c.in_ok-stop.was,
      c.in_ok-accel.was,
      c.in_ok-covariance.was,
      rules,
    ) depth 8 fits 5000
