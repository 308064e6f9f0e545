-- `convert_one` writes what the converter leaves, or the line of its refusal.
-- Assumes nothing.
use native.Mathlib.Omega.{arith}
use mathlib.Core.Path.{sym}
use lib.ListN.{replicate}
use lib.Seq.{length-take-le}
use Rattle.format.proofs.DigitLaws.{below_of}
use Rattle.ledger_convert.proofs.Conversions.{within, sent_converted, sent_refused}
use Rattle.ledger_convert.proofs.convert_one.Goals as goal

pub slice_bounds-out-end : goal.slice_bounds-out-end
slice_bounds-out-end g c =
    let w = c.ledger_convert.ensures in
    within _ _ (replicate 8198 0) _ w.0 w.1 c.in-Ok.is

pub slice_bounds-write_all-end : goal.slice_bounds-write_all-end
slice_bounds-write_all-end g c =
    let w = c.ledger_convert.ensures in
    sym (length-take-le _ _ (within _ _ (replicate 8198 0) _ w.0 w.1 c.in-Ok.is))

pub returns-in_ok-write_all-in-Ok : goal.returns-in_ok-write_all-in-Ok
returns-in_ok-write_all-in-Ok g c =
    let w = c.ledger_convert.ensures in
    sent_converted _ _ c.args.place (replicate 8198 0) _ _ _ _ w.0 w.1 c.in-Ok.is c.in_ok-write_all-in-Ok.ensures.bytes

pub returns-in_ok-write_all-in-Err : goal.returns-in_ok-write_all-in-Err
returns-in_ok-write_all-in-Err g c =
    let w = c.ledger_convert.ensures in
    let bytes = below_of 256 c.args.ledger.now (λ i. omega (arith, c.type_inv.ledger i)) in
    sent_refused _ _ c.args.place _ _ _ (replicate 8198 0) bytes (omega arith) w.0 c.in-Err.is (omega arith)
    (omega arith)
    (rw c.number.ensures at c.refusal_line.ensures) c.unwrap_or-size.ensures
    c.placed_line.ensures c.unwrap_or-end.ensures
    c.in_ok-write_all-in-Err.ensures.bytes
