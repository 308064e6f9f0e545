-- `measure_in` is the measure of a conversion: the ledger's own, and its content laid in an empty buffer.
-- Assumes nothing.
use native.Mathlib.Omega.{arith}
use borrow.Author.Rules.{rules}
use Rattle.format.proofs.DigitLaws.{below_of}
use Rattle.format.proofs.ConvertLaws.{own_faults}
use Rattle.ledger_reader.proofs.Results.{read_as_lem, unread, lost, makes}
use Rattle.ledger_converter.proofs.measure_in.Goals as goal

pub returns-in_err-held : goal.returns-in_err-held
returns-in_err-held c = unread (own_faults c.args.edition c.args.ledger.now) (search rules) c.in_err-held.ensures.to

pub convert_content-requires : goal.convert_content-requires
convert_content-requires c =
    let m = c.in_ok-held.ensures.to in
    read_as_lem (below_of 256 c.args.ledger.now (λ i. omega (arith, c.type_inv.ledger i))) m.0 m.1

pub returns-in_err-length : goal.returns-in_err-length
returns-in_err-length c = lost (search rules) c.in_err-length.ensures.to

pub returns : goal.returns
returns c =
    let m = c.in_ok-held.ensures.to in
    makes c.in_ok-held.held (read_as_lem (below_of 256 c.args.ledger.now
    (λ i. omega (arith, c.type_inv.ledger i))) m.0 m.1)
    c.in_ok-length.ensures.to
