-- `ledger_redact`: the refusals, and the front and the content where there is room.
-- Assumes nothing.
use native.Mathlib.Omega.{arith}
use borrow.Author.Rules.{rules}
use mathlib.Core.Path.{ap, ◌∙◌}
use Rattle.format.specs.Whole.{version, id_of}
use Rattle.format.specs.Redact.{redacted, redact_answer, redact_left}
use Rattle.ledger_reader.proofs.Results.{refuses, short, stored}
use Rattle.ledger_redactor.proofs.Copies.{in_its_own, four}
use Rattle.ledger_redactor.proofs.ledger_redact.Goals as goal

pub returns-in_err-measured : goal.returns-in_err-measured
unfolding redact_answer redact_left
returns-in_err-measured c =
    let l = c.args.ledger.now in
    refuses (id_of l) c.args.out.now (redacted l) (search rules) c.in_err-measured.ensures.to

pub returns-in_err-output : goal.returns-in_err-output
unfolding redact_answer redact_left
returns-in_err-output c =
    let l = c.args.ledger.now in
    short (id_of l) c.args.out.now (redacted l) (search rules) c.in_ok-measured.ensures.to.1 c.in_err-output.ensures

pub overflow_sub-output : goal.overflow_sub-output
overflow_sub-output c =
    let m = c.in_ok-measured.ensures.to in
    omega (arith, four c.args.ledger.now c.args.out.now m.0 m.1 c.in_ok-output.ensures)

pub redact_content-requires : goal.redact_content-requires
redact_content-requires c = in_its_own c.in_ok-measured.ensures.to.0

pub returns : goal.returns
unfolding redact_answer redact_left
returns c =
    let l = c.args.ledger.now in
    let m = c.in_ok-measured.ensures.to in
    stored (id_of l) c.args.out.now (redacted l) m.1 c.in_ok-output.ensures c.append_pair-version.ensures.appended
    c.append.ensures
    c.redact_content.ensures (c.version.ensures ∙ ap version m.0.edition) m.0.named
