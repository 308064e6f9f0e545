-- `hex_line` stores the digits and a newline where there is room for all.
-- Assumes nothing.
use native.Mathlib.Omega.{arith}
use borrow.Author.Rules.{rules}
use lib.Seq.{length-take-le}
use Rattle.ledger_text.proofs.Lines.{hex_short, hex_stored}
use Rattle.ledger_text.proofs.hex_line.Goals as goal

pub returns-then-out-end : goal.returns-then-out-end
returns-then-out-end c = hex_short _ _ (omega arith)

pub returns : goal.returns
returns c =
    let laid = c.encode_to_slice.ensures in
    let fits = laid.fits.1 (length-take-le _ _ (omega arith)) in
    hex_stored c.encode_to_slice.result c.args.bytes.now c.args.out.now c.encode_to_slice.new.output (λ i. omega (arith, c.type_inv.bytes i)) (omega arith) fits laid.written (search rules)
