-- `redact_content` goes through satellites, and copies every other content.
-- Assumes nothing.
use native.Mathlib.Omega.{arith}
use Rattle.std.proofs.lemmas.List.{take_rest}
use Rattle.format.proofs.DigitLaws.{below_of}
use Rattle.runs.proofs.Appends.{named}
use Rattle.ledger_redactor.proofs.Copies.{whole_copy}
use Rattle.ledger_redactor.proofs.redact_content.Goals as goal

pub returns : goal.returns
returns c =
    let b = below_of 256 c.args.ledger.now (λ i. omega (arith, c.type_inv.ledger i)) in
    whole_copy b c.requires c.if-table_id-eq4.false (named (take_rest c.args.ledger.now 4) c.append.ensures)
