-- `write_position` meets its contract: the runs of id 0, by the position system.
-- Assumes nothing.
use Prim.Native.Nat.{ℕ}
use borrow.Author.Tests.{eq-eqb, ne_eqb}
use lib.Dec.{eqb}
use Rattle.format.specs.Syntax.{Syntax, when, end}
use Rattle.format.specs.Tables.{position, orbital, elements}
use Rattle.runs.specs.Lines.{run, sign_of, width_of}
use Rattle.runs.proofs.Names as names
use Rattle.format.proofs.Passed.{carried}
use Rattle.write_runs.proofs.WentLaws.{stops, starts, on, when_yes, when_no}
use Rattle.write_tables.proofs.write_position.Goals as goal

abbrev rest : ℕ → Syntax
rest v = when (eqb v 0) orbital elements

pub returns-in_err-head : goal.returns-in_err-head
unfolding position run sign_of width_of
returns-in_err-head c = rw (carried c.from_residual.ensures) (λ e. stops (c.in_err-head.ensures.ran e names.satellite rest))

pub returns-then-head-eq0 : goal.returns-then-head-eq0
unfolding position run sign_of width_of
returns-then-head-eq0 c =
    λ e. on (c.in_ok-head.ensures.ran e names.satellite rest)
    (starts (when_yes _ _ _ _ _ _ (eq-eqb _ _ c.if-head-eq0.true)) (c.write_needed.ensures.ran e names.orbital (λ _. end)))

pub returns : goal.returns
unfolding position run sign_of width_of
returns c =
    λ e. on (c.in_ok-head.ensures.ran e names.satellite rest)
    (starts (when_no _ _ _ _ _ _ (ne_eqb _ _ c.if-head-eq0.false)) (c.write_needed-2.ensures.ran e names.elements (λ _. end)))
