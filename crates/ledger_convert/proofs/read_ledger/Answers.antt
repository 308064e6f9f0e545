-- `read_ledger` reads a length, and then as many bytes as it says.
-- Assumes nothing.
use native.Mathlib.Omega.{arith}
use mathlib.Core.Path.{◌≡◌}
use lib.ListN.{length}
use lib.Seq.{take_at}
use Rattle.ledger_convert.proofs.Reading.{fetched_short, fetched_failed, fetched_long}
use Rattle.ledger_convert.proofs.read_ledger.Goals as goal

pub returns-then-head-lt2 : goal.returns-then-head-lt2
returns-then-head-lt2 g c =
    fetched_short _ _ c.read_full.new.buffer _ c.in_ok-head.head (omega (arith, c.read_full.auto.buffer))
    c.if-head-lt2.true c.in_ok-head.ensures.filled

pub slice_bounds-read_full-count : goal.slice_bounds-read_full-count
slice_bounds-read_full-count g c = c.size_in_front-size.ensures.range.0

pub slice_bounds-read_full-start : goal.slice_bounds-read_full-start
slice_bounds-read_full-start g c = omega (arith, c.size_in_front-size.ensures.range)

pub slice_bounds-read_full-end-3 : goal.slice_bounds-read_full-end-3
slice_bounds-read_full-end-3 g c = omega (arith, c.size_in_front-size.ensures.range)

pub returns-in_err-rest : goal.returns-in_err-rest
returns-in_err-rest g c =
    let more = c.in_err-rest.ensures.filled in
    fetched_failed _ _ _ _ _ more.0 c.from_residual-in_err-rest.result c.in_ok-head.ensures.filled.1 more.1
    c.from_residual-in_err-rest.ensures.0

pub returns : goal.returns
returns g c =
    let two : c.in_ok-head.head ≡ 2 =
    omega (arith, c.in_ok-head.ensures.filled.0, c.read_full.auto.buffer, c.if-head-lt2.false) in
    let part = c.read_full.new.buffer in
    let long : length part ≡ 2 = omega (arith, c.read_full.auto.buffer) in
    let size = c.size_in_front-size.ensures.is in
    fetched_long _ _ _ part c.read_full-2.new.buffer _ _ c.in_ok-rest.rest c.size_in_front-size.result long
    (rw two at c.in_ok-head.ensures.filled.1) (rw (take_at part _ 2 long) at size)
    (omega (arith, c.read_full-2.auto.buffer))
    c.in_ok-rest.ensures.filled
