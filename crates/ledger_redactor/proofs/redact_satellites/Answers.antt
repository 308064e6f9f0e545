-- `redact_satellites` lays a satellite a turn.
-- Assumes nothing.
use native.Mathlib.Omega.{arith}
use Rattle.format.proofs.DigitLaws.{below_of}
use Rattle.ledger_redactor.proofs.Walking.{whole, begins, there, turn, ends}
use Rattle.ledger_redactor.proofs.redact_satellites.Goals as goal

pub get_be-count-requires : goal.get_be-count-requires
get_be-count-requires c =
    let b = below_of 256 c.args.ledger.now (λ i. omega (arith, c.type_inv.ledger i)) in
    let w = whole c.args.ledger.now b c.requires in
    omega (arith, w.long)

pub slice_bounds-append-end : goal.slice_bounds-append-end
slice_bounds-append-end c =
    let b = below_of 256 c.args.ledger.now (λ i. omega (arith, c.type_inv.ledger i)) in
    let w = whole c.args.ledger.now b c.requires in
    omega (arith, w.long)

pub loop-init : goal.loop-init
loop-init c =
    let b = below_of 256 c.args.ledger.now (λ i. omega (arith, c.type_inv.ledger i)) in
    let w = whole c.args.ledger.now b c.requires in
    begins w (omega (arith, c.append-at.ensures.size))

pub covariance_of-covariance-requires : goal.covariance_of-covariance-requires
covariance_of-covariance-requires c = (
  (there c.loop.invariant (rw c.get_be-count.ensures at c.loop-test.true)).2,
  c.requires.short,
)

pub append_satellite-at-requires-clause-within : goal.append_satellite-at-requires-clause-within
append_satellite-at-requires-clause-within c =
    let t = there c.loop.invariant (rw c.get_be-count.ensures at c.loop-test.true) in
    omega (arith, t.0, t.1, t.2, c.covariance_of-covariance.ensures.start)

pub loop-preserved : goal.loop-preserved
loop-preserved c =
    turn c.loop.invariant (rw c.get_be-count.ensures at c.loop-test.true) c.covariance_of-covariance.ensures.start
    c.covariance_of-covariance.ensures.end c.append_satellite-at.ensures

pub returns : goal.returns
returns c = ends c.loop.invariant c.append-at.ensures (rw c.get_be-count.ensures at c.loop-test.false)
