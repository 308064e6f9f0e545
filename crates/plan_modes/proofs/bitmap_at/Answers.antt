-- `bitmap_at` meets its contract: the header's fields, and the slots or their refusal.
-- Assumes nothing.
use Prim.Native.Nat.{◌+◌}
use mathlib.Core.Path.{◌∙◌}
use native.Mathlib.Nat.{add-zero}
use native.Mathlib.Omega.{arith}
use Rattle.bits.specs.Read.{Room}
use Rattle.bits.proofs.Answers.{value_below, value_fits}
use Rattle.format.proofs.Passed.{carried}
use Rattle.bit_reader.proofs.Reading.{enough_room}
use Rattle.plan_modes.proofs.Bitmap.{bitmap_no, bitmap_there}
use Rattle.plan_modes.proofs.bitmap_at.Goals as goal
use Rattle.plan_modes.proofs.bitmap_at.Goals.{In_ok-enough}

-- the slots are there
slots : (c : In_ok-enough) → Room c.args.from.body.now (c.args.from.at + 32) c.value-size.result
slots c =
    let tested = rw (c.to.ensures.0, c.to.ensures.1) at c.enough.ensures in
    enough_room _ _ _ _ tested c.in_ok-enough.was (rw (c.to.ensures.0, c.to.ensures.1) at c.to.result.place)

pub returns-in_err-enough : goal.returns-in_err-enough
returns-in_err-enough c = λ e.
    let a = c.args.from in
    let tested = rw (c.to.ensures.0, c.to.ensures.1) at c.enough.ensures in
    carried c.from_residual.ensures
    ∙ bitmap_no a.body.now e a.at (omega arith) c.value-size.ensures tested c.in_err-enough.was

pub overflow_add-length : goal.overflow_add-length
overflow_add-length c = record { fits = omega (arith, value_below _ _ 15 c.value-size.ensures) }

pub overflow_cast-result : goal.overflow_cast-result
overflow_cast-result c = value_fits _ _ 15 c.value-size.ensures tt

pub overflow_cast-result-2 : goal.overflow_cast-result-2
overflow_cast-result-2 c = value_fits _ _ 15 c.value.ensures tt

pub slots_on-requires : goal.slots_on-requires
slots_on-requires c =
    let r = slots (goal.at.slots_on-requires c).In_ok-enough in
    (omega (arith, r.fits), omega (arith, value_below _ _ 15 c.value-size.ensures), omega (arith, r.short))

pub overflow_cast-result-3 : goal.overflow_cast-result-3
overflow_cast-result-3 c = value_fits _ _ 1 c.value-2.ensures tt

pub overflow_cast-result-4 : goal.overflow_cast-result-4
overflow_cast-result-4 c = value_fits _ _ 1 c.value-3.ensures tt

pub overflow_mul-result : goal.overflow_mul-result
overflow_mul-result c =
    record { fits = let r = slots (goal.at.overflow_mul-result c).In_ok-enough in omega (arith, r.fits, r.short) }

pub overflow_add-result : goal.overflow_add-result
overflow_add-result c =
    record { fits = let r = slots (goal.at.overflow_add-result c).In_ok-enough in omega (arith, r.fits, r.short) }

pub overflow_cast-result-6 : goal.overflow_cast-result-6
overflow_cast-result-6 c =
    record { fits = let r = slots (goal.at.overflow_cast-result-6 c).In_ok-enough in omega (arith, r.fits, r.short) }

pub returns : goal.returns
returns c = λ e.
    let a = c.args.from in
    let r = slots (goal.at.returns c).In_ok-enough in
    bitmap_there a.body.now e a.at (omega arith) (rw add-zero at c.value-2.ensures) c.value-size.ensures
    c.value-3.ensures c.value.ensures (omega arith)
    (omega (arith, r.fits)) c.slots_on.ensures
