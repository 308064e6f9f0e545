-- `shown_of` meets its contract: by the sign bit where the field is signed.
-- Assumes nothing.
use mathlib.Core.Path.{refl, sym}
use native.Mathlib.Omega.{arith}
use Rattle.bits.proofs.Tests.{not_below}
use Rattle.runs.proofs.MarkLaws.{powers, shown_signed, shown_low, shown_ext, shown_unsigned}
use Rattle.runs.proofs.shown_of.Goals as goal

pub returns-then-mark-lt128 : goal.returns-then-mark-lt128
returns-then-mark-lt128 c = sym (shown_unsigned _ _ c.if-mark-lt128.true)

pub returns-then-v-w : goal.returns-then-v-w
returns-then-v-w c =
    let p = powers c.args.mark c.requires.valid (omega arith) in
    sym (shown_low _ _ (omega arith) (rw p.half at c.if-v-w.true))

pub returns-then-mark-eq-EXT : goal.returns-then-mark-eq-EXT
returns-then-mark-eq-EXT c = sym (shown_ext _ _ c.if-mark-eq-EXT.true)

pub overflow_add-result : goal.overflow_add-result
overflow_add-result c =
    let p = powers c.args.mark c.requires.valid (omega arith) in
    let q = c.requires.v_bound in
    rw p.whole (record { fits = omega (arith, p.small, rw p.width at q) })

pub returns : goal.returns
returns c =
    let p = powers c.args.mark c.requires.valid (omega arith) in
    rw (p.whole, shown_signed c.args.mark c.args.v (omega arith) c.if-mark-eq-EXT.false)
    (not_below _ _ (rw p.half at c.if-v-w.false) refl)
