-- `ledger_read` answers and leaves what the definitions say, by the measure and by the content laid in the buffer.
-- Assumes nothing.
use native.Mathlib.Omega.{arith}
use borrow.Author.Rules.{rules}
use Rattle.format.proofs.DigitLaws.{below_of}
use Rattle.ledger_reader.proofs.Reading.{has_size, sized_framed, says_no, says_short, says_never, says_yes}
use Rattle.ledger_reader.proofs.ledger_read.Goals as goal

pub returns-in_err-measured : goal.returns-in_err-measured
returns-in_err-measured c = says_no c.args.ledger.now c.args.out.now (search rules) c.in_err-measured.ensures.to

pub returns-in_err-output : goal.returns-in_err-output
returns-in_err-output c = says_short (has_size c.in_ok-measured.ensures.to.1) c.args.out.now (search rules) c.in_err-output.ensures

pub read_content-requires : goal.read_content-requires
read_content-requires c =
    sized_framed (has_size c.in_ok-measured.ensures.to.1) (below_of 256 c.args.ledger.now (λ i. omega (arith, c.type_inv.ledger i)))

pub returns-in_err-read_content : goal.returns-in_err-read_content
returns-in_err-read_content c =
    let m = c.in_ok-measured.ensures.to in
    let b = below_of 256 c.args.ledger.now (λ i. omega (arith, c.type_inv.ledger i)) in
    absurd (says_never (has_size m.1) c.args.out.now b m.0 c.in_err-read_content.ensures)

pub returns : goal.returns
returns c =
    let m = c.in_ok-measured.ensures.to in
    let b = below_of 256 c.args.ledger.now (λ i. omega (arith, c.type_inv.ledger i)) in
    let bo = below_of 256 c.args.out.now (λ i. omega (arith, c.slice_known-1.given i)) in
    let bo' = below_of 256 c.read_content.new.out (λ i. omega (arith, c.type_inv.out i)) in
    says_yes (has_size m.1) c.args.out.now b bo bo' (search rules) c.in_ok-output.ensures m.0 c.in_ok-read_content.ensures
