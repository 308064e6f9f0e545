-- `elements_at` meets its contract: each field stands where the description has it.
-- Assumes nothing.
use Prim.Native.Nat.{◌+◌}
use native.Mathlib.Nat.{add-zero}
use native.Mathlib.Omega.{arith}
use Rattle.format.specs.ByName.{first_by}
use Rattle.format.specs.At.{found_at}
use Rattle.bits.proofs.Answers.{value_fits}
use Rattle.position.specs.declared.PositionSystem.TheVariants.{Sgp4}
use Rattle.position.proofs.Systems.{elements_there}
use Rattle.position.proofs.elements_at.Goals as goal

pub overflow_cast-result : goal.overflow_cast-result
overflow_cast-result c = search value_fits

pub overflow_cast-result-2 : goal.overflow_cast-result-2
overflow_cast-result-2 c = search value_fits

pub overflow_cast-result-3 : goal.overflow_cast-result-3
overflow_cast-result-3 c = search value_fits

pub overflow_cast-result-4 : goal.overflow_cast-result-4
overflow_cast-result-4 c = search value_fits

pub overflow_cast-result-5 : goal.overflow_cast-result-5
overflow_cast-result-5 c = search value_fits

pub overflow_cast-result-6 : goal.overflow_cast-result-6
overflow_cast-result-6 c = search value_fits

pub overflow_cast-result-7 : goal.overflow_cast-result-7
overflow_cast-result-7 c = search value_fits

pub overflow_cast-result-8 : goal.overflow_cast-result-8
overflow_cast-result-8 c = search value_fits

pub overflow_cast-result-9 : goal.overflow_cast-result-9
overflow_cast-result-9 c = search value_fits

pub overflow_cast-result-10 : goal.overflow_cast-result-10
overflow_cast-result-10 c = search value_fits

pub overflow_cast-result-11 : goal.overflow_cast-result-11
overflow_cast-result-11 c = search value_fits

pub overflow_cast-result-12 : goal.overflow_cast-result-12
overflow_cast-result-12 c = search value_fits

pub returns : goal.returns
unfolding first_by
returns c =
    let a = c.args in
    let first = rw (add-zero a.from.at) at c.value.ensures in
    elements_there _ a.from.at (omega arith)
    (λ i. found_at
    (Sgp4
    (first i)
    (c.value-2.ensures i)
    (c.value-3.ensures i)
    (c.value-4.ensures i)
    (c.value-5.ensures i)
    (c.value-6.ensures i)
    (c.value-7.ensures i)
    (c.value-8.ensures i)
    (c.value-9.ensures i)
    (c.value-10.ensures i)
    (c.value-11.ensures i)
    (c.value-12.ensures i)) (a.from.at + 344))
