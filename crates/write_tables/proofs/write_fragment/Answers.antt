-- `write_fragment` meets its contract: the runs of id 1, one on top of the other.
-- Assumes nothing.
use Prim.Native.Nat.{ℕ}
use native.Mathlib.Omega.{arith}
use borrow.Author.Tests.{eq-eqb, ne_eqb}
use lib.Dec.{eqb}
use Rattle.format.specs.Syntax.{Syntax, when}
use Rattle.format.specs.Tables.{u, fragment, centre, delivery}
use Rattle.runs.specs.Lines.{run, sign_of, width_of}
use Rattle.runs.proofs.Names as names
use Rattle.format.proofs.Passed.{carried}
use Rattle.write_runs.proofs.WentLaws.{stops, starts, on, when_yes, when_no}
use Rattle.write_tables.specs.Lists.{lists}
use Rattle.write_tables.proofs.write_fragment.Goals as goal

abbrev middle : ℕ → Syntax
middle first = when (eqb first 1) centre (u "reserved_zero_future_use_4" 4 delivery)

-- what follows the first run
abbrev behind : ℕ → Syntax
behind first = u "last_occurrence" 1 (middle first)

pub returns-in_err-cell : goal.returns-in_err-cell
unfolding fragment run sign_of width_of
returns-in_err-cell c = rw (carried c.from_residual.ensures) (λ e. stops (c.in_err-cell.ensures.ran e names.cell behind))

pub returns-in_err-flag : goal.returns-in_err-flag
unfolding fragment run sign_of width_of
returns-in_err-flag c =
    rw (carried c.from_residual-in_err-flag.ensures) (λ e. on (c.in_ok-cell.ensures.ran e names.cell behind)
    (stops (c.in_err-flag.ensures.ran e names.last (λ _. middle c.in_ok-cell.cell.last))))

pub returns-in_err-centre : goal.returns-in_err-centre
unfolding fragment run sign_of width_of
returns-in_err-centre c =
    let first = c.in_ok-cell.cell.last in
    rw (carried c.from_residual-in_err-centre.ensures) (λ e. on (c.in_ok-cell.ensures.ran e names.cell behind)
    (on (c.in_ok-flag.ensures.ran e names.last (λ _. middle first))
    (starts (when_yes _ _ _ _ _ _ (eq-eqb _ _ c.if-cell-eq1.true)) (stops (c.in_err-centre.ensures.ran e names.centre lists)))))

pub write_lists-requires : goal.write_lists-requires
unfolding width_of
write_lists-requires c = record { count_bound = omega (arith, c.in_ok-centre.ensures.result_bound) }

pub returns-then-cell-eq1 : goal.returns-then-cell-eq1
unfolding fragment run sign_of width_of
returns-then-cell-eq1 c =
    let first = c.in_ok-cell.cell.last in
    λ e. on (c.in_ok-cell.ensures.ran e names.cell behind)
    (on (c.in_ok-flag.ensures.ran e names.last (λ _. middle first))
    (starts (when_yes _ _ _ _ _ _ (eq-eqb _ _ c.if-cell-eq1.true))
    (on (c.in_ok-centre.ensures.ran e names.centre lists) (c.write_lists.ensures e))))

pub returns-in_err-none : goal.returns-in_err-none
unfolding fragment run sign_of width_of
returns-in_err-none c =
    let first = c.in_ok-cell.cell.last in
    rw (carried c.from_residual-in_err-none.ensures) (λ e. on (c.in_ok-cell.ensures.ran e names.cell behind)
    (on (c.in_ok-flag.ensures.ran e names.last (λ _. middle first))
    (starts (when_no _ _ _ _ _ _ (ne_eqb _ _ c.if-cell-eq1.false)) (stops (c.in_err-none.ensures.ran e names.no_centre lists)))))

pub write_lists-requires-2 : goal.write_lists-requires-2
unfolding width_of
write_lists-requires-2 c = record { count_bound = omega (arith, c.in_ok-none.ensures.result_bound) }

pub returns : goal.returns
unfolding fragment run sign_of width_of
returns c =
    let first = c.in_ok-cell.cell.last in
    λ e. on (c.in_ok-cell.ensures.ran e names.cell behind)
    (on (c.in_ok-flag.ensures.ran e names.last (λ _. middle first))
    (starts (when_no _ _ _ _ _ _ (ne_eqb _ _ c.if-cell-eq1.false))
    (on (c.in_ok-none.ensures.ran e names.no_centre lists) (c.write_lists-2.ensures e))))
