-- `value_bytewise` meets its contract. The loop's invariant: the number so far is that of the bits from `at` to the place.
-- Assumes nothing.
use mathlib.Core.Path.{sym, ap, ◌∙◌}
use native.Mathlib.Nat.{sub_self}
use native.Mathlib.Omega.{arith}
use Rattle.format.specs.Digits.{value_at}
use Rattle.bits.proofs.Values as values
use Rattle.bits.proofs.value_bytewise.Goals as goal
use Rattle.bits.proofs.value_bytewise.Goals.{After-window-low}

pub loop-here-init : goal.loop-here-init
loop-here-init c = (omega arith, omega arith, sym (ap (value_at _ _) (sub_self c.args.at) ∙ values.value_at_none _ _))

-- one turn, as the law has it
turn : (c : After-window-low) → let a = c.args in
    let l = c.loop-here in
    values.Turn a.s.now a.at l.here c.step_bits-n.result l.value c.window-low.result
turn c =
    values.turn _ _ _ _ _ _ (omega arith) (omega arith) (omega arith) (omega arith) (omega arith)
    c.loop-here.invariant.2 c.window-low.ensures

pub overflow_add-value : goal.overflow_add-value
overflow_add-value c = record { fits = (turn (goal.at.overflow_add-value c).After-window-low).fits }

pub loop-here-preserved : goal.loop-here-preserved
loop-here-preserved c = (omega arith, omega arith, (turn (goal.at.loop-here-preserved c).After-window-low).next)
