-- `write_bitmap` goes through the fields of a map of slots.
-- Assumes nothing.
use Prim.Native.Nat.{ℕ}
use native.Mathlib.Omega.{arith}
use Rattle.format.specs.Syntax.{Syntax, slots, end}
use Rattle.format.specs.declared.Fault.TheVariants.{SlotsCut}
use Rattle.runs.specs.Lines.{sign_of, width_of, size_of, run}
use Rattle.format.proofs.Passed.{carried}
use Rattle.write_runs.proofs.WentLaws.{stops, on}
use Rattle.write_plans.proofs.Names.{size_names, slot_names, after_size}
use Rattle.write_plans.proofs.write_bitmap.Goals as goal

abbrev rest : ℕ → ℕ → Syntax
rest size v = slots "slot_transmission_on" SlotsCut size end

pub returns-in_err-size : goal.returns-in_err-size
unfolding run sign_of width_of
returns-in_err-size c = rw (carried c.from_residual.ensures) (λ e. stops (c.in_err-size.ensures.ran e size_names after_size))

pub returns-in_err-current : goal.returns-in_err-current
unfolding run sign_of width_of
returns-in_err-current c =
    rw (carried c.from_residual-in_err-current.ensures) (λ e. on (c.in_ok-size.ensures.ran e size_names after_size)
    (stops (c.in_err-current.ensures.ran e slot_names (rest c.in_ok-size.size.last))))

pub write_slots-requires : goal.write_slots-requires
unfolding width_of size_of
write_slots-requires c =
    let size = c.in_ok-size.ensures in
    record { at_value = (omega (arith, size.moved.to.0, c.in_ok-current.ensures.moved.to.0, c.requires.at_value), omega (arith, size.result_bound)) }

pub returns : goal.returns
unfolding run sign_of width_of
returns c =
    λ e. on (c.in_ok-size.ensures.ran e size_names after_size)
    (on (c.in_ok-current.ensures.ran e slot_names (rest c.in_ok-size.size.last))
    (c.write_slots.ensures e "slot_transmission_on" end))
