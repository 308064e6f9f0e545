-- `write_entries`: an entry more a turn, and the count at the end.
-- Assumes nothing.
use native.Mathlib.Omega.{arith}
use Rattle.format.proofs.Passed.{carried}
use Rattle.write_runs.proofs.Lent.{lent}
use Rattle.ledger_writer.proofs.Listing.{begin, turn, stop, ended}
use Rattle.ledger_writer.proofs.write_entries.Goals as goal

pub loop-at-init : goal.loop-at-init
loop-at-init c =
    let p = c.args.from.placed in
    begin (record { short = p.short; within = p.within; behind = omega (arith, c.requires.spare) }) c.requires.at_value

pub returns-in_err-entry : goal.returns-in_err-entry
returns-in_err-entry c =
    rw (carried c.from_residual.ensures) (record { to = stop c.loop-at.invariant c.in_err-entry.ensures.to (omega (arith, c.least_bits-least.ensures)) })

pub loop-at-smaller : goal.loop-at-smaller
loop-at-smaller c =
    let l = c.loop-at in
    let w = c.in_ok-entry.ensures.to.1 in
    let t = turn l.invariant (lent l.out _ l.there c.min-start.ensures w) (omega (arith, c.least_bits-least.ensures)) in
    omega (arith, t.0, w.within)

pub loop-at-preserved : goal.loop-at-preserved
loop-at-preserved c =
    let l = c.loop-at in
    (turn l.invariant (lent l.out _ l.there c.min-start.ensures c.in_ok-entry.ensures.to.1) (omega (arith, c.least_bits-least.ensures))).1

pub returns : goal.returns
returns c = record { to = ended c.loop-at.invariant (omega (arith, c.least_bits-least.ensures)) c.put.ensures }
