-- `read_association`: a proof with the shape of the code, by the description of id 2.
-- Assumes nothing.
use Prim.Native.Nat.{ℕ}
use mathlib.Core.List.{List, [], ◌∷◌}
use lib.Dec.{eqb}
use borrow.Author.Rules.{rules}
use borrow.Author.Tests.{eq-eqb, ne_eqb}
use Rattle.std.specs.Prelude.{Result}
use Rattle.format.specs.Syntax.{Syntax, when, end}
use Rattle.format.specs.Tables.{u, association, leap, time}
use Rattle.format.specs.declared.Refusal.{Refusal}
use Rattle.read_runs.specs.declared.step.Step.{Step}
use Rattle.runs.specs.Lines.{run, sign_of, width_of}
use Rattle.read_runs.specs.Came.{Way, Laid}
use Rattle.read_runs.proofs.CameLaws.{stops, starts, then, when_yes, when_no, need_any}
use Rattle.runs.proofs.Names as names
use Rattle.read_tables.proofs.read_association.Goals as goal

abbrev rest : ℕ → Syntax
rest v = when (eqb v 1) (leap time) (u "reserved_zero_future_use_4" 4 time)

-- the two tests in front of the first run, which a ledger passes by
tests : {way : Way} {l out out' : List ℕ} {place at : ℕ} {k : ℕ → Syntax} {r : Result Step Refusal}
    → Laid way l (run names.type 0 (4 ∷ []) rest) place at out k out' r → Laid way l association place at out k out' r
unfolding association run sign_of width_of
tests y = starts (need_any _ _ _ _ _ _) (starts (need_any _ _ _ _ _ _) y)

pub returns-in_err-head : goal.returns-in_err-head
returns-in_err-head c = λ way. stops (search rules) (tests (c.in_err-head.ensures.laid way names.type rest))

pub returns-then-head-eq1 : goal.returns-then-head-eq1
unfolding run sign_of width_of
returns-then-head-eq1 c =
    λ way. then (tests (c.in_ok-head.ensures.laid way names.type rest)).to
    (starts (when_yes _ _ _ _ _ _ (eq-eqb _ _ c.if-head-eq1.true)) (c.read_run-then-head-eq1.ensures.laid way names.leap_time (λ _. end)))

pub returns : goal.returns
unfolding run sign_of width_of
returns c =
    λ way. then (tests (c.in_ok-head.ensures.laid way names.type rest)).to
    (starts (when_no _ _ _ _ _ _ (ne_eqb _ _ c.if-head-eq1.false)) (c.read_run-2.ensures.laid way names.no_leap_time (λ _. end)))
