-- `measure_copy` is the measure of a copy: the ledger's own, and its content laid in an empty buffer.
-- Assumes nothing.
use native.Mathlib.Omega.{arith}
use borrow.Author.Rules.{rules}
use Rattle.format.proofs.DigitLaws.{below_of}
use Rattle.format.proofs.RedactLaws.{redact_faults}
use Rattle.ledger_reader.proofs.Results.{read_as_lem, unread, makes}
use Rattle.ledger_redactor.proofs.Copies.{in_its_own}
use Rattle.ledger_redactor.proofs.measure_copy.Goals as goal

pub returns-in_err-held : goal.returns-in_err-held
returns-in_err-held c = unread (redact_faults c.args.ledger.now) (search rules) c.in_err-held.ensures.to

pub redact_content-length-requires : goal.redact_content-length-requires
redact_content-length-requires c =
    let m = c.in_ok-held.ensures.to in
    in_its_own (read_as_lem (below_of 256 c.args.ledger.now (λ i. omega (arith, c.type_inv.ledger i))) m.0 m.1)

pub returns : goal.returns
returns c =
    let m = c.in_ok-held.ensures.to in
    makes c.in_ok-held.held (read_as_lem (below_of 256 c.args.ledger.now
    (λ i. omega (arith, c.type_inv.ledger i))) m.0 m.1)
    c.redact_content-length.ensures
