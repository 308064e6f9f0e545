-- `write_association` meets its contract: the runs of id 2, one on top of the other.
-- Assumes nothing.
use Prim.Native.Nat.{ℕ}
use borrow.Author.Tests.{eq-eqb, ne_eqb}
use lib.Dec.{eqb}
use Rattle.format.specs.Syntax.{Syntax, when, end}
use Rattle.format.specs.Tables.{u, association, leap, time}
use Rattle.runs.specs.Lines.{run, sign_of, width_of}
use Rattle.runs.proofs.Names as names
use Rattle.format.proofs.Passed.{carried}
use Rattle.write_runs.proofs.WentLaws.{stops, starts, on, need_had, need_lacked, when_yes, when_no}
use Rattle.write_tables.proofs.write_association.Goals as goal

abbrev rest : ℕ → Syntax
rest v = when (eqb v 1) (leap time) (u "reserved_zero_future_use_4" 4 time)

pub returns-in_err-enough : goal.returns-in_err-enough
unfolding association
returns-in_err-enough c =
    rw (carried c.from_residual.ensures) (λ e. record
    { to = need_lacked _ e _ _ 1 _ c.enough.ensures c.in_err-enough.was c.args.from.placed.within })

pub returns-in_err-kind : goal.returns-in_err-kind
unfolding association run sign_of width_of
returns-in_err-kind c =
    rw (carried c.from_residual-in_err-kind.ensures) (λ e. starts
    (need_had _ e _ _ 1 _ c.enough.ensures c.in_ok-enough.was c.args.from.placed.within)
    (stops (c.in_err-kind.ensures.ran e names.type rest)))

pub returns-then-kind-eq1 : goal.returns-then-kind-eq1
unfolding association run sign_of width_of
returns-then-kind-eq1 c =
    λ e. starts (need_had _ e _ _ 1 _ c.enough.ensures c.in_ok-enough.was c.args.from.placed.within)
    (on (c.in_ok-kind.ensures.ran e names.type rest)
    (starts (when_yes _ _ _ _ _ _ (eq-eqb _ _ c.if-kind-eq1.true)) (c.write_run.ensures.ran e names.leap_time (λ _. end))))

pub returns : goal.returns
unfolding association run sign_of width_of
returns c =
    λ e. starts (need_had _ e _ _ 1 _ c.enough.ensures c.in_ok-enough.was c.args.from.placed.within)
    (on (c.in_ok-kind.ensures.ran e names.type rest)
    (starts (when_no _ _ _ _ _ _ (ne_eqb _ _ c.if-kind-eq1.false)) (c.write_run-2.ensures.ran e names.no_leap_time (λ _. end))))
