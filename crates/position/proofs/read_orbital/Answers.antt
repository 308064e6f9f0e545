-- `read_orbital` meets its contract: by the test that all of it is there.
-- Assumes nothing.
use Rattle.std.proofs.Common.{◌+◌, arith}
use native.Mathlib.Nat.{add-zero}
use lib.Dec.{eqb}
use Rattle.format.specs.ByName.{first_by}
use Rattle.format.specs.At.{found_at}
use Rattle.bits.proofs.Answers.{value_fits}
use Rattle.format.proofs.Passed.{carried}
use Rattle.bit_reader.proofs.Reading.{enough_room}
use Rattle.position.specs.declared.PositionSystem.TheVariants.{Orbital}
use Rattle.position.proofs.Systems.{orbital_there, orbital_short}
use Rattle.position.proofs.read_orbital.Goals as goal

pub returns-in_err-enough : goal.returns-in_err-enough
returns-in_err-enough c =
    rw (carried c.from_residual.ensures) (orbital_short _ _ c.enough.ensures c.in_err-enough.was (λ h. omega (arith, h)))

pub value-requires-clause-room : goal.value-requires-clause-room
value-requires-clause-room c =
    let there = enough_room _ _ _ _ c.enough.ensures c.in_ok-enough.was c.args.from.place in
    record { short = there.short; fits = omega (arith, there.fits) }

pub value-requires-2-clause-room : goal.value-requires-2-clause-room
value-requires-2-clause-room c =
    let there = enough_room _ _ _ _ c.enough.ensures c.in_ok-enough.was c.args.from.place in
    record { short = there.short; fits = omega (arith, there.fits) }

pub value-requires-3-clause-room : goal.value-requires-3-clause-room
value-requires-3-clause-room c =
    let there = enough_room _ _ _ _ c.enough.ensures c.in_ok-enough.was c.args.from.place in
    record { short = there.short; fits = omega (arith, there.fits) }

pub overflow_cast-result : goal.overflow_cast-result
overflow_cast-result c = search value_fits

pub overflow_cast-result-2 : goal.overflow_cast-result-2
overflow_cast-result-2 c = search value_fits

pub returns : goal.returns
unfolding first_by
returns c =
    let a = c.args in
    let first = rw (add-zero a.from.at) at c.value.ensures in
    orbital_there _ a.from.at (omega (arith, (enough_room _ _ _ _ c.enough.ensures c.in_ok-enough.was c.args.from.place).fits))
    (λ i. found_at (Orbital (first i) (eqb (c.value-2.ensures i) 1) (c.value-3.ensures i)) (a.from.at + 24))
