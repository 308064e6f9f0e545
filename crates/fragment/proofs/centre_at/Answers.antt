-- `centre_at` meets its contract: a field at a time, each from its own bits.
-- Assumes nothing.
use mathlib.Core.Path.{◌∙◌, ap}
use native.Mathlib.Nat.{add-zero}
use native.Mathlib.Omega.{arith}
use Rattle.format.specs.Digits.{twos}
use Rattle.bits.proofs.Answers.{value_fits, value_below}
use Rattle.bits.proofs.Signs.{narrow_fits, narrow_held}
use Rattle.fragment.proofs.centre_at.Goals as goal

pub signed_of-requires : goal.signed_of-requires
signed_of-requires c = (omega arith, omega arith, omega (arith, value_below _ _ 18 c.value-latitude.ensures))

pub overflow_cast-result : goal.overflow_cast-result
overflow_cast-result c =
    narrow_fits _ _ (omega arith) (omega arith) (omega (arith, value_below _ _ 18 c.value-latitude.ensures)) c.signed_of.ensures

pub signed_of-requires-2 : goal.signed_of-requires-2
signed_of-requires-2 c = (omega arith, omega arith, value_below _ _ 19 c.value-longitude.ensures)

pub overflow_cast-result-2 : goal.overflow_cast-result-2
overflow_cast-result-2 c =
    narrow_fits 19 _ (omega arith) (omega arith) (value_below _ _ 19 c.value-longitude.ensures) c.signed_of-2.ensures

pub overflow_cast-result-3 : goal.overflow_cast-result-3
overflow_cast-result-3 c = search value_fits

pub overflow_cast-result-4 : goal.overflow_cast-result-4
overflow_cast-result-4 c = search value_fits

pub overflow_cast-result-5 : goal.overflow_cast-result-5
overflow_cast-result-5 c = search value_fits

pub overflow_cast-result-6 : goal.overflow_cast-result-6
overflow_cast-result-6 c = search value_fits

pub returns : goal.returns
returns c =
    let v1 = c.value-latitude.ensures in
    let v2 = c.value-longitude.ensures in
    let first = rw (add-zero c.args.from.at) at c.value-2.ensures in
    λ i. record {
      centre_latitude = (narrow_held 18 _ (omega arith) (omega arith) (value_below _ _ 18 v1) c.signed_of.ensures ∙ ap (twos 18) v1) i;
      centre_longitude = (narrow_held 19 _ (omega arith) (omega arith) (value_below _ _ 19 v2) c.signed_of-2.ensures ∙ ap (twos 19) v2) i;
      max_distance = c.value.ensures i;
      reserved_zero_future_use_4 = first i;
      reserved_zero_future_use_5 = c.value-3.ensures i;
      reserved_zero_future_use_6 = c.value-4.ensures i;
    }
