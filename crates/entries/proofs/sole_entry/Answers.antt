-- One entry, or the refusal of the one reading.
-- Assumes nothing.
use mathlib.Core.Path.{◌≡◌, sym, ap, ◌∙◌}
use Rattle.format.specs.Tables.{association}
use Rattle.association.specs.Association.{association_of, association_at}
use Rattle.std.proofs.Common.{Err}
use Rattle.format.proofs.Passed.{carried}
use Rattle.entries.specs.Entries.{next_of, walked}
use Rattle.entries.proofs.Ends.{ends}
use Rattle.entries.proofs.Bodies.{seek_sole, seek_not, seek_raw, sole_place, sole_first, sole_none}
use Rattle.entries.proofs.sole_entry.Goals as goal
use Rattle.entries.proofs.sole_entry.Goals.{then-table_id-eq2+in_ok-read_association, else-table_id-eq2, then-index-eq0, else-index-eq0}

pub returns-in_err-read_association-clause-value : goal.returns-in_err-read_association-clause-value
unfolding association_at
returns-in_err-read_association-clause-value c =
    let a = c.args in
    let z : a.table_id ≡ 2 = c.if-table_id-eq2.true in
    let e = sym (ends a.s.now association 0 association_of c.read_association.ensures) ∙ ap next_of c.in_err-read_association.was in
    rw (carried c.from_residual.ensures, z) (seek_not a.index walked Err a.s.now _ c.requires.s_len_bound e)

pub returns-clause-value : goal.returns-clause-value
unfolding association_at
returns-clause-value c =
    let a = c.args in
    let p : c.if-index-eq0.result ≡ sole_place a.index = elim c.if-index-eq0.branch [
      | then-index-eq0 w ↦ w.result-is ∙ sole_first a.index w.if-index-eq0.true
      | else-index-eq0 w ↦ w.result-is ∙ sole_none a.index w.if-index-eq0.false
    ] in
    rw p elim c.if-table_id-eq2.branch [
      | then-table_id-eq2+in_ok-read_association w ↦
          let z : a.table_id ≡ 2 = w.if-table_id-eq2.true in
          let e = sym (ends a.s.now association 0 association_of w.read_association.ensures) ∙ ap next_of w.in_ok-read_association.was in
          rw z (seek_sole a.index walked Err a.s.now _ c.requires.s_len_bound e)
      | else-table_id-eq2 w ↦ seek_raw a.index walked Err a.s.now a.table_id c.requires.s_len_bound c.requires.no_list w.if-table_id-eq2.false
    ]
