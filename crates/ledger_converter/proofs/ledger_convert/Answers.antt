-- `ledger_convert`: the refusals, and the front and the content where there is room.
-- Assumes nothing.
use native.Mathlib.Omega.{arith}
use borrow.Author.Rules.{rules}
use Rattle.format.specs.Whole.{id_of}
use Rattle.format.specs.Convert.{converted, convert_answer, convert_left}
use Rattle.format.proofs.DigitLaws.{below_of}
use Rattle.ledger_reader.proofs.Results.{refuses, short, never, stored}
use Rattle.ledger_converter.proofs.Conversions.{four}
use Rattle.ledger_converter.proofs.ledger_convert.Goals as goal

pub returns-in_err-measured : goal.returns-in_err-measured
unfolding convert_answer convert_left
returns-in_err-measured c =
    let l = c.args.ledger.now in
    refuses (id_of l) c.args.out.now (converted c.args.edition l) (search rules) c.in_err-measured.ensures.to

pub returns-in_err-output : goal.returns-in_err-output
unfolding convert_answer convert_left
returns-in_err-output c =
    let l = c.args.ledger.now in
    short (id_of l) c.args.out.now (converted c.args.edition l)
    (search rules) c.in_ok-measured.ensures.to.1 c.in_err-output.ensures

pub overflow_sub-output : goal.overflow_sub-output
overflow_sub-output c =
    let b = below_of 256 c.args.ledger.now (λ i. omega (arith, c.type_inv.ledger i)) in
    omega (
      arith,
      four c.args.edition c.args.ledger.now c.args.out.now b c.in_ok-measured.ensures.to.1
          c.in_ok-output.ensures,
    )

pub returns-in_err-convert_content : goal.returns-in_err-convert_content
returns-in_err-convert_content c =
    let l = c.args.ledger.now in
    never (id_of l) c.args.out.now (converted c.args.edition l) c.in_ok-measured.ensures.to.1 c.in_ok-output.ensures
    c.in_err-convert_content.ensures.to

pub returns : goal.returns
unfolding convert_answer convert_left
returns c =
    let l = c.args.ledger.now in
    let m = c.in_ok-measured.ensures.to in
    stored (id_of l) c.args.out.now (converted c.args.edition l) m.1 c.in_ok-output.ensures
    c.append_pair-version.ensures.appended c.append.ensures
    c.in_ok-convert_content.ensures.to c.version.ensures m.0.named
