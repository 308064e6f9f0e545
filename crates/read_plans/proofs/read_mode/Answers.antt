-- `read_mode` goes through the fields of the mode that the number stands for.
-- Assumes nothing.
use mathlib.Core.Path.{refl}
use native.Mathlib.Omega.{arith}
use borrow.Author.Tests.{ne_eqb}
use Rattle.format.specs.Syntax.{end}
use Rattle.runs.specs.Lines.{sign_of, width_of, run}
use Rattle.read_runs.proofs.CameLaws.{starts, need_any, when_yes, when_no}
use Rattle.write_plans.proofs.Names.{dwell_names, grid_names}
use Rattle.read_plans.proofs.read_mode.Goals as goal

pub returns-in-0 : goal.returns-in-0
unfolding run sign_of width_of
returns-in-0 c =
    rw c.in-0.is
    (λ way. starts (when_yes _ _ _ _ _ _ refl) (starts (need_any _ _ _ _ _ _) (c.read_run.ensures.laid way dwell_names (λ _. end))))

pub returns-in-1 : goal.returns-in-1
returns-in-1 c =
    rw c.in-1.is (λ way. starts (when_no _ _ _ _ _ _ refl) (starts (when_yes _ _ _ _ _ _ refl) (c.read_bitmap.ensures way)))

pub returns-in-2 : goal.returns-in-2
unfolding run sign_of width_of
returns-in-2 c =
    rw c.in-2.is
    (λ way. starts (when_no _ _ _ _ _ _ refl)
    (starts (when_no _ _ _ _ _ _ refl)
    (starts (when_yes _ _ _ _ _ _ refl)
    (starts (need_any _ _ _ _ _ _) (c.read_run-in-2.ensures.laid way grid_names (λ _. end))))))

pub returns-in_default : goal.returns-in_default
returns-in_default c =
    λ way. starts (when_no _ _ _ _ _ _ (ne_eqb c.args.kind 0 (λ z. omega arith)))
    (starts (when_no _ _ _ _ _ _ (ne_eqb c.args.kind 1 (λ z. omega arith)))
    (starts (when_no _ _ _ _ _ _ (ne_eqb c.args.kind 2 (λ z. omega arith))) (c.read_raw.ensures way "reserved")))
