-- `read_position`: a proof with the shape of the code, by the description of id 0.
-- Assumes nothing.
use Prim.Native.Nat.{ℕ}
use lib.Dec.{eqb}
use borrow.Author.Rules.{rules}
use borrow.Author.Tests.{eq-eqb, ne_eqb}
use Rattle.format.specs.Syntax.{Syntax, when, end}
use Rattle.format.specs.Tables.{position, orbital, elements}
use Rattle.runs.specs.Lines.{run, sign_of, width_of}
use Rattle.read_runs.proofs.CameLaws.{stops, starts, then, when_yes, when_no, need_any}
use Rattle.runs.proofs.Names as names
use Rattle.read_tables.proofs.read_position.Goals as goal

abbrev rest : ℕ → Syntax
rest v = when (eqb v 0) orbital elements

pub returns-in_err-head : goal.returns-in_err-head
unfolding position run sign_of width_of
returns-in_err-head c = λ way. stops (search rules) (c.in_err-head.ensures.laid way names.satellite rest)

pub returns-then-head-eq0 : goal.returns-then-head-eq0
unfolding position run sign_of width_of
returns-then-head-eq0 c =
    λ way. then (c.in_ok-head.ensures.laid way names.satellite rest).to
    (starts (when_yes _ _ _ _ _ _ (eq-eqb _ _ c.if-head-eq0.true))
    (starts (need_any _ _ _ _ _ _) (c.read_run-then-head-eq0.ensures.laid way names.orbital (λ _. end))))

pub returns : goal.returns
unfolding position run sign_of width_of
returns c =
    λ way. then (c.in_ok-head.ensures.laid way names.satellite rest).to
    (starts (when_no _ _ _ _ _ _ (ne_eqb _ _ c.if-head-eq0.false))
    (starts (need_any _ _ _ _ _ _) (c.read_run-2.ensures.laid way names.elements (λ _. end))))
