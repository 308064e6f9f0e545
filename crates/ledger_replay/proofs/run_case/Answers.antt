-- `run_case` prints as many bytes of the buffer as the ledger has, and reads them back.
-- Assumes nothing.
use Rattle.std.proofs.Common.{◌≡◌, ◌≤◌, ℕ, List, Result, Ok, length, sym, ◌∙◌, arith}
use lib.Seq.{length-take-le}
use Rattle.format.specs.declared.Output.{Output}
use Rattle.format.specs.declared.Refusal.{Refusal}
use Rattle.format.specs.declared.Edition.TheVariants.{First}
use Rattle.format.specs.Calls.{write_answer}
use Rattle.format.proofs.CallLaws.{write_within_lem}
use Rattle.ledger_replay.proofs.run_case.Goals as goal

-- a ledger is within the buffer that holds it
within : (id room : ℕ) (body out : List ℕ) {a : Result Output Refusal} {o : Output}
    → a ≡ write_answer First id body room → a ≡ Ok o → length out ≡ room → o.length ≤ length out
within id room body out e d h = omega (arith, write_within_lem First id body room (sym e ∙ d))

pub slice_bounds-out-end : goal.slice_bounds-out-end
slice_bounds-out-end c = within _ _ _ _ c.ledger_write.ensures.0 c.in-Ok.is c.ledger_write.auto.out

pub slice_bounds-ledger-end : goal.slice_bounds-ledger-end
slice_bounds-ledger-end c =
    let w = c.ledger_write in
    sym (length-take-le _ _ (within _ _ _ _ w.ensures.0 c.in-Ok.is w.auto.out))
