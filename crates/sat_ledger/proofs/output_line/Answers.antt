-- `output_line` stores the line that `output_of` says.
-- Assumes nothing.
use mathlib.Core.Path.{sym, ◌∙◌}
use native.Mathlib.Omega.{arith}
use Prim.Native.Nat.{◌≤◌}
use lib.ListN.{length, replicate}
use lib.Seq.{length-take-le}
use Rattle.format.proofs.CallLaws.{write_within_lem}
use Rattle.sat_ledger.proofs.Printing.{printed_none, printed_ledger, printed_refusal}
use Rattle.sat_ledger.proofs.output_line.Goals as goal
use Rattle.sat_ledger.proofs.output_line.Goals.{in-Ok, in-Err}

pub returns-in_default : goal.returns-in_default
returns-in_default c = printed_none (omega arith) c.unwrap_or.ensures _ c.in_default.ensures.cases c.put_line.ensures

pub slice_bounds-ledger-end : goal.slice_bounds-ledger-end
slice_bounds-ledger-end c =
    let w = c.ledger_write in
    omega (arith, write_within_lem _ _ _ _ (sym w.ensures.0 ∙ c.in-Ok.is), w.auto.out)

pub slice_bounds-hex_line-end : goal.slice_bounds-hex_line-end
slice_bounds-hex_line-end c =
    let w = c.ledger_write in
    let h : c.in-Ok.output.length ≤ length w.new.out =
    omega (arith, write_within_lem _ _ _ _ (sym w.ensures.0 ∙ c.in-Ok.is), w.auto.out) in
    sym (length-take-le _ _ h)

pub returns : goal.returns
returns c =
    let w = c.ledger_write.ensures in
    let split = c.in-Some.ensures.cases.0 in
    let told = c.unwrap_or-2.ensures in
    elim c.match-ledger_write.branch [
      | in-Ok k ↦ rw k.text-is (printed_ledger (omega arith) (rw k.line-is at told) _ _ split (replicate 8198 0) (omega arith)
          w.0 w.1 k.in-Ok.is k.hex_line-line.ensures)
      | in-Err k ↦ rw k.text-is (printed_refusal (omega arith) (rw k.line-is at told) _ _ split (replicate 8198 0) (omega arith)
          w.0 (λ i. omega (arith, c.type_inv.input i)) k.in-Err.is (rw k.number.ensures at k.refusal_line-line.ensures))
    ]
