-- By how the walk ended, and by whether there is such an entry.
-- Assumes nothing.
use mathlib.Core.Path.{◌≡◌, sym, ap, ◌∙◌, subst}
use Prim.Native.Nat.{ℕ}
use Rattle.std.proofs.Common.{Err}
use Rattle.format.specs.Whole.{body_starts}
use Rattle.format.specs.At.{seek, Starts}
use Rattle.format.proofs.Passed.{carried}
use Rattle.entries.specs.Entries.{walked}
use Rattle.sat.specs.Sat.{some_entry}
use Rattle.sat.proofs.Made.{sure_of, first_place}
use Rattle.sat.proofs.Indexed.{entry_refused, entry_none, entry_found}
use Rattle.sat.proofs.entry_at.Goals as goal

pub returns-in_err-walk : goal.returns-in_err-walk
returns-in_err-walk c =
    let a = c.args in
    rw (carried c.from_residual.ensures) (entry_refused a.table_id a.body.now a.index c.walk_body.ensures.value c.in_err-walk.was)

pub typed_entry-requires : goal.typed_entry-requires
typed_entry-requires c =
    let a = c.args in
    let walk = c.walk_body in
    let sure = sure_of c.in_ok-walk.was walk.ensures.sure in
    let starts = subst (Starts a.body.now) c.in-Some.is sure.starts in (
      starts.1,
      λ z. first_place a.body.now a.index
          (subst (λ (k : ℕ). walk.result ≡ seek a.body.now a.index walked Err (body_starts k a.body.now)) z walk.ensures.value)
          c.in_ok-walk.was c.in-Some.is,
    )

pub returns-in_err-typed_entry-in-Some : goal.returns-in_err-typed_entry-in-Some
returns-in_err-typed_entry-in-Some c =
    let a = c.args in
    rw (carried c.from_residual-in_err-typed_entry-in-Some.ensures)
    (entry_found a.table_id a.body.now a.index c.walk_body.ensures.value c.in_ok-walk.was c.in-Some.is
    (sym (ap some_entry c.in_err-typed_entry-in-Some.was) ∙ ap some_entry c.typed_entry.ensures))

pub returns-in_ok-typed_entry-in-Some : goal.returns-in_ok-typed_entry-in-Some
returns-in_ok-typed_entry-in-Some c =
    let a = c.args in
    entry_found a.table_id a.body.now a.index c.walk_body.ensures.value c.in_ok-walk.was c.in-Some.is
    (sym (ap some_entry c.in_ok-typed_entry-in-Some.was) ∙ ap some_entry c.typed_entry.ensures)

pub returns-in-None : goal.returns-in-None
returns-in-None c =
    let a = c.args in
    entry_none a.table_id a.body.now a.index c.walk_body.ensures.value c.in_ok-walk.was c.in-None.is
