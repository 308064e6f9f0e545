-- `write_mode` goes through the fields of the mode that the number stands for.
-- Assumes nothing.
use native.Mathlib.Omega.{arith}
use borrow.Author.Tests.{eq-eqb, ne_eqb}
use Rattle.format.specs.Syntax.{end}
use Rattle.runs.specs.Lines.{sign_of, width_of, run}
use Rattle.write_runs.specs.Went.{inside}
use Rattle.write_runs.proofs.WentLaws.{when_yes, when_no}
use Rattle.write_plans.proofs.SlotLaws.{as_ragged, ragged_as}
use Rattle.write_plans.proofs.Names.{dwell_names, grid_names}
use Rattle.write_plans.proofs.write_mode.Goals as goal

pub returns-in-0 : goal.returns-in-0
unfolding run sign_of width_of
returns-in-0 c =
    λ ed. ragged_as (when_yes _ _ _ _ _ _ (eq-eqb c.args.kind 0 (omega arith)))
    (as_ragged (c.write_needed.ensures.ran (inside ed c.args.stop) dwell_names (λ _. end)))

pub returns-in-1 : goal.returns-in-1
returns-in-1 c =
    λ ed. ragged_as (when_no _ _ _ _ _ _ (ne_eqb c.args.kind 0 (λ e. omega arith)))
    (ragged_as (when_yes _ _ _ _ _ _ (eq-eqb c.args.kind 1 (omega arith)))
    (as_ragged (c.write_bitmap.ensures (inside ed c.args.stop))))

pub returns-in-2 : goal.returns-in-2
unfolding run sign_of width_of
returns-in-2 c =
    λ ed. ragged_as (when_no _ _ _ _ _ _ (ne_eqb c.args.kind 0 (λ e. omega arith)))
    (ragged_as (when_no _ _ _ _ _ _ (ne_eqb c.args.kind 1 (λ e. omega arith)))
    (ragged_as (when_yes _ _ _ _ _ _ (eq-eqb c.args.kind 2 (omega arith)))
    (as_ragged (c.write_needed-in-2.ensures.ran (inside ed c.args.stop) grid_names (λ _. end)))))

pub returns-in_default : goal.returns-in_default
returns-in_default c =
    λ ed. ragged_as (when_no _ _ _ _ _ _ (ne_eqb c.args.kind 0 (λ e. omega arith)))
    (ragged_as (when_no _ _ _ _ _ _ (ne_eqb c.args.kind 1 (λ e. omega arith)))
    (ragged_as (when_no _ _ _ _ _ _ (ne_eqb c.args.kind 2 (λ e. omega arith)))
    (c.write_raw.ensures ed "reserved")))
