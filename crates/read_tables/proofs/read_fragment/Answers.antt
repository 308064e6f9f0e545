-- `read_fragment`: a proof with the shape of the code, by the description of id 1.
-- Assumes nothing.
use Prim.Native.Nat.{ℕ}
use lib.Dec.{eqb}
use borrow.Author.Rules.{rules}
use borrow.Author.Tests.{eq-eqb, ne_eqb}
use Rattle.format.specs.Syntax.{Syntax, when}
use Rattle.format.specs.Tables.{u, fragment, centre, delivery}
use Rattle.runs.specs.Lines.{run, sign_of, width_of}
use Rattle.read_runs.proofs.CameLaws.{stops, starts, then, when_yes, when_no, need_any}
use Rattle.write_tables.specs.Lists.{lists}
use Rattle.runs.proofs.Names as names
use Rattle.read_tables.proofs.read_fragment.Goals as goal

-- what follows the first flag, and what follows the second
abbrev flag : ℕ → Syntax
flag first = u "last_occurrence" 1 (when (eqb first 1) centre (u "reserved_zero_future_use_4" 4 delivery))

abbrev middle : ℕ → ℕ → Syntax
middle first _ = when (eqb first 1) centre (u "reserved_zero_future_use_4" 4 delivery)

pub returns-in_err-cell : goal.returns-in_err-cell
unfolding fragment run sign_of width_of
returns-in_err-cell c = λ way. stops (search rules) (c.in_err-cell.ensures.laid way names.cell flag)

pub returns-in_err-flag : goal.returns-in_err-flag
unfolding fragment run sign_of width_of
returns-in_err-flag c =
    λ way. then (c.in_ok-cell.ensures.laid way names.cell flag).to
    (stops (search rules) (c.in_err-flag.ensures.laid way names.last (middle c.in_ok-cell.cell.last)))

pub returns-in_err-centre : goal.returns-in_err-centre
unfolding fragment run sign_of width_of
returns-in_err-centre c =
    λ way. then (c.in_ok-cell.ensures.laid way names.cell flag).to
    (then (c.in_ok-flag.ensures.laid way names.last (middle c.in_ok-cell.cell.last)).to
    (starts (when_yes _ _ _ _ _ _ (eq-eqb _ _ c.if-cell-eq1.true))
    (starts (need_any _ _ _ _ _ _) (stops (search rules) (c.in_err-centre.ensures.laid way names.centre lists)))))

pub returns-then-cell-eq1 : goal.returns-then-cell-eq1
unfolding fragment run sign_of width_of
returns-then-cell-eq1 c =
    λ way. then (c.in_ok-cell.ensures.laid way names.cell flag).to
    (then (c.in_ok-flag.ensures.laid way names.last (middle c.in_ok-cell.cell.last)).to
    (starts (when_yes _ _ _ _ _ _ (eq-eqb _ _ c.if-cell-eq1.true))
    (then (starts (need_any _ _ _ _ _ _) (c.in_ok-centre.ensures.laid way names.centre lists)).to (c.read_lists.ensures way))))

pub returns-in_err-none : goal.returns-in_err-none
unfolding fragment run sign_of width_of
returns-in_err-none c =
    λ way. then (c.in_ok-cell.ensures.laid way names.cell flag).to
    (then (c.in_ok-flag.ensures.laid way names.last (middle c.in_ok-cell.cell.last)).to
    (starts (when_no _ _ _ _ _ _ (ne_eqb _ _ c.if-cell-eq1.false))
    (stops (search rules) (c.in_err-none.ensures.laid way names.no_centre lists))))

pub returns : goal.returns
unfolding fragment run sign_of width_of
returns c =
    λ way. then (c.in_ok-cell.ensures.laid way names.cell flag).to
    (then (c.in_ok-flag.ensures.laid way names.last (middle c.in_ok-cell.cell.last)).to
    (starts (when_no _ _ _ _ _ _ (ne_eqb _ _ c.if-cell-eq1.false))
    (then (c.in_ok-none.ensures.laid way names.no_centre lists).to (c.read_lists-2.ensures way))))
