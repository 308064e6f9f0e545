-- `read_bitmap` goes through the fields of a map of slots.
-- Assumes nothing.
use Prim.Native.Nat.{ℕ}
use native.Mathlib.Omega.{arith}
use borrow.Author.Rules.{rules}
use Rattle.format.specs.Syntax.{Syntax, end, slots}
use Rattle.format.specs.declared.Fault.TheVariants.{SlotsCut}
use Rattle.runs.specs.Lines.{sign_of, width_of, run}
use Rattle.read_runs.proofs.CameLaws.{stops, starts, then, need_any}
use Rattle.write_plans.proofs.Names.{size_names, slot_names, after_size}
use Rattle.read_plans.proofs.read_bitmap.Goals as goal

-- what follows the current slot
abbrev rest : ℕ → ℕ → Syntax
rest size _ = slots "slot_transmission_on" SlotsCut size end

pub returns-in_err-size : goal.returns-in_err-size
unfolding run sign_of width_of
returns-in_err-size c =
    λ way. starts (need_any _ _ _ _ _ _) (stops (search rules) (c.in_err-size.ensures.laid way size_names after_size))

pub returns-in_err-current : goal.returns-in_err-current
unfolding run sign_of width_of
returns-in_err-current c =
    λ way. starts (need_any _ _ _ _ _ _)
    (then (c.in_ok-size.ensures.laid way size_names after_size).to
    (stops (search rules) (c.in_err-current.ensures.laid way slot_names (rest c.in_ok-size.size.last))))

pub read_slots-requires : goal.read_slots-requires
unfolding width_of
read_slots-requires c = record { m_bound = omega (arith, c.in_ok-size.ensures.result_bound) }

pub returns : goal.returns
unfolding run sign_of width_of
returns c =
    λ way. starts (need_any _ _ _ _ _ _)
    (then (c.in_ok-size.ensures.laid way size_names after_size).to
    (then (c.in_ok-current.ensures.laid way slot_names (rest c.in_ok-size.size.last)).to
    (c.read_slots.ensures way "slot_transmission_on" end)))
