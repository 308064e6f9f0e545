-- `read_back` has a byte for the table id in front of the longest plain body.
-- Assumes nothing.
use Rattle.std.proofs.Common.{◌≡◌, ◌≤◌, ◌+◌, ℕ, List, [], ◌∷◌, ◌++◌, Result, Ok, length, sym, ap, ◌∙◌, arith}
use mathlib.Core.List.{append-nil}
use lib.Seq.{length-take-le}
use Rattle.format.specs.declared.Output.{Output}
use Rattle.format.specs.declared.Refusal.{Refusal}
use Rattle.format.specs.Calls.{read_answer}
use Rattle.format.proofs.CallLaws.{read_within}
use Rattle.ledger_replay.proofs.read_back.Goals as goal

-- a plain body is within the buffer that holds it, and with its table id within the longer one
within : (ledger out : List ℕ) (room : ℕ) {a : Result Output Refusal} {o : Output}
    → a ≡ read_answer ledger room → a ≡ Ok o → length out ≡ room → o.length ≤ length out
within ledger out room e d h = omega (arith, read_within ledger room (sym e ∙ d))

longer : (id n : ℕ) (out : List ℕ) → n ≤ length out → n + 1 ≤ length (id ∷ (out ++ []))
longer id n out h = omega (arith, ap length (append-nil out))

pub overflow_add-plain : goal.overflow_add-plain
overflow_add-plain c =
    let r = c.ledger_read in
    omega (arith, within _ _ _ r.ensures.0 c.in-Ok.is r.auto.out, r.auto.out)

pub slice_bounds-plain-end-in-Ok : goal.slice_bounds-plain-end-in-Ok
slice_bounds-plain-end-in-Ok c =
    let r = c.ledger_read in
    longer c.in-Ok.output.table_id _ _ (within _ _ _ r.ensures.0 c.in-Ok.is r.auto.out)

pub slice_bounds-print_bytes-end : goal.slice_bounds-print_bytes-end
slice_bounds-print_bytes-end c =
    let r = c.ledger_read in
    sym (length-take-le _ _ (longer c.in-Ok.output.table_id _ _ (within _ _ _ r.ensures.0 c.in-Ok.is r.auto.out)))
