-- `edition_body`: the writer's refusal, or what the reader makes of the ledger.
-- Assumes nothing.
use mathlib.Core.Path.{sym, ◌∙◌}
use native.Mathlib.Omega.{arith}
use lib.Seq.{length-take-le}
use borrow.Author.Rules.{rules}
use Rattle.format.proofs.CallLaws.{write_within_lem}
use Rattle.format.proofs.DigitLaws.{below_of}
use Rattle.plain_body.proofs.ByLedger.{no_answer, by_answer, by_left}
use Rattle.plain_body.proofs.edition_body.Goals as goal

pub returns-in_err-filed : goal.returns-in_err-filed
returns-in_err-filed c =
    let a = c.args in
    let body-known = c.shared_slice_known-1 in
    let z = no_answer a.edition a.table_id a.body.now (search rules) (below_of 256 a.body.now (λ i. omega (arith, body-known.given i))) a.out.now
    (search rules) c.ledger_write.ensures.0 c.in_err-filed.was in
    (search (z.0, rules), z.1)

pub slice_bounds-ledger-end : goal.slice_bounds-ledger-end
slice_bounds-ledger-end c =
    let w = c.ledger_write in
    omega (arith, write_within_lem _ _ _ _ (sym w.ensures.0 ∙ c.in_ok-filed.was), w.auto.out)

pub slice_bounds-ledger_read-end : goal.slice_bounds-ledger_read-end
slice_bounds-ledger_read-end c =
    let w = c.ledger_write in
    let within = write_within_lem _ _ _ _ (sym w.ensures.0 ∙ c.in_ok-filed.was) in
    sym (length-take-le _ _ (omega (arith, within, w.auto.out)))

pub returns : goal.returns
returns c =
    let a = c.args in
    let body-known = c.shared_slice_known-1 in
    let w = c.ledger_write in
    let hb = below_of 256 a.body.now (λ i. omega (arith, body-known.given i)) in
    let r = c.ledger_read.ensures in (
      r.0 ∙ by_answer a.edition a.table_id a.body.now (search rules) hb _ w.ensures.0 w.ensures.1 c.in_ok-filed.was _,
      r.1 ∙ by_left a.edition a.table_id a.body.now (search rules) hb _ w.ensures.0 w.ensures.1 c.in_ok-filed.was _,
    )
