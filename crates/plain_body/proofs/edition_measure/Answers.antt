-- `edition_measure`: the writer's refusal, or the measure of the ledger.
-- Assumes nothing.
use mathlib.Core.Path.{◌≡◌, sym, ◌∙◌}
use native.Mathlib.Omega.{arith}
use lib.Seq.{length-take-le}
use borrow.Author.Rules.{rules}
use Rattle.std.specs.Prelude.{Ok}
use Rattle.format.proofs.CallLaws.{write_within_lem}
use Rattle.format.proofs.DigitLaws.{below_of}
use Rattle.format.proofs.Passed.{carried}
use Rattle.plain_body.proofs.ByLedger.{no_measure, by_measure}
use Rattle.plain_body.proofs.edition_measure.Goals as goal

pub returns-in_err-written : goal.returns-in_err-written
returns-in_err-written c =
    let a = c.args in
    let w = c.ledger_write in
    let same : w.result ≡ c.from_residual.result = grind arith in
    let no = carried c.from_residual.ensures in
    no ∙ no_measure a.edition a.table_id a.body.now (search rules) (below_of 256 a.body.now (λ i. omega (arith, c.type_inv.body i)))
    (search rules) w.ensures.0 (same ∙ no)

pub slice_bounds-ledger-end : goal.slice_bounds-ledger-end
slice_bounds-ledger-end c =
    let w = c.ledger_write in
    let ok : w.result ≡ Ok c.in_ok-written.written = search rules in
    omega (arith, write_within_lem _ _ _ _ (sym w.ensures.0 ∙ ok), w.auto.out)

pub slice_bounds-ledger_measure-end : goal.slice_bounds-ledger_measure-end
slice_bounds-ledger_measure-end c =
    let w = c.ledger_write in
    let ok : w.result ≡ Ok c.in_ok-written.written = search rules in
    let within = write_within_lem _ _ _ _ (sym w.ensures.0 ∙ ok) in
    sym (length-take-le _ _ (omega (arith, within, w.auto.out)))

pub returns : goal.returns
returns c =
    let a = c.args in
    let body-known = c.shared_slice_known-1 in
    let w = c.ledger_write.ensures in
    let hb = below_of 256 a.body.now (λ i. omega (arith, body-known.given i)) in
    let ok : c.ledger_write.result ≡ Ok c.in_ok-written.written = search rules in
    c.ledger_measure.ensures ∙ by_measure a.edition a.table_id a.body.now (search rules) hb _ w.0 w.1 ok
