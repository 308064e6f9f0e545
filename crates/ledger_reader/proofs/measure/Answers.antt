-- `measure` is the measure of a ledger: its tests in their order, and its content laid in an empty buffer.
-- Assumes nothing.
use mathlib.Core.Path.{sym, ◌∙◌}
use native.Mathlib.Omega.{arith}
use borrow.Author.Rules.{rules}
use Rattle.format.proofs.DigitLaws.{below_of}
use Rattle.ledger_reader.proofs.Measuring.{Headed, headed, framed, measure_short, measure_wrong, measure_version, measure_unread, measure_big, measure_size}
use Rattle.ledger_reader.proofs.measure.Goals.{then-ledger-lt4-via-then-ledger-lt4, then-ledger-lt4-via-else-ledger-lt4+then-get_be-ledger}
use Rattle.ledger_reader.proofs.measure.Goals as goal

pub returns-then-ledger-lt4 : goal.returns-then-ledger-lt4
returns-then-ledger-lt4 c =
    let l = c.args.ledger.now in
    rw c.refused_at.ensures
    (record {
      to = elim c.then-ledger-lt4.branch [
        | then-ledger-lt4-via-then-ledger-lt4 w ↦ measure_short l w.if-ledger-lt4.true
        | then-ledger-lt4-via-else-ledger-lt4+then-get_be-ledger w ↦
            measure_wrong l w.if-ledger-lt4.false (λ z. w.if-get_be-ledger.true (w.get_be.ensures ∙ z))
      ];
    })

pub returns-in_default : goal.returns-in_default
returns-in_default c =
    rw c.refused_at-in_default.ensures
    (record { to = measure_version c.args.ledger.now c.if-ledger-lt4.false (sym c.get_be.ensures ∙ c.if-get_be-ledger.false) c.in_default.ensures (grind arith) })

pub read_content-requires : goal.read_content-requires
read_content-requires c =
    framed (below_of 256 c.args.ledger.now (λ i. omega (arith, c.type_inv.ledger i))) c.if-ledger-lt4.false
    (sym c.get_be.ensures ∙ c.if-get_be-ledger.false)

pub returns-in_err-content : goal.returns-in_err-content
returns-in_err-content c =
    let h : Headed c.args.ledger.now _ = headed c.if-ledger-lt4.false (sym c.get_be.ensures ∙ c.if-get_be-ledger.false) c.in-Ok.ensures (grind arith) in
    measure_unread c.args.ledger.now h (search rules) c.in_err-content.ensures.to

pub returns-then-long : goal.returns-then-long
returns-then-long c =
    let l = c.args.ledger.now in
    let h : Headed c.args.ledger.now _ = headed c.if-ledger-lt4.false (sym c.get_be.ensures ∙ c.if-get_be-ledger.false) c.in-Ok.ensures (grind arith) in
    record { to = measure_big l h (below_of 256 l (λ i. omega (arith, c.type_inv.ledger i))) c.in_ok-content.ensures.to c.if-long.true }

pub returns : goal.returns
returns c =
    let l = c.args.ledger.now in
    let h : Headed c.args.ledger.now _ = headed c.if-ledger-lt4.false (sym c.get_be.ensures ∙ c.if-get_be-ledger.false) c.in-Ok.ensures (grind arith) in
    record {
      to = (h.edition, measure_size l h (below_of 256 l (λ i. omega (arith, c.type_inv.ledger i))) c.in_ok-content.ensures.to c.if-long.false);
    }
