-- `size_for` meets its contract: an extension's number is tested, and no other.
-- Assumes nothing.
use mathlib.Core.Path.{sym}
use Rattle.runs.proofs.MarkLaws.{plain_size, small_size, no_size}
use Rattle.runs.proofs.size_for.Goals as goal
use Rattle.runs.proofs.size_for.Goals.{else-mark-eq-EXT-via-then-mark-eq-EXT+else-beyond, else-mark-eq-EXT-via-else-mark-eq-EXT}

pub returns-then-beyond : goal.returns-then-beyond
returns-then-beyond c = sym (no_size _ _ c.if-mark-eq-EXT.true c.if-beyond.true)

pub returns : goal.returns
returns c =
    let a = c.args in
    rw c.size_of.ensures
    (elim c.else-mark-eq-EXT.branch [
      | else-mark-eq-EXT-via-then-mark-eq-EXT+else-beyond w ↦ sym (small_size a.mark a.v w.if-beyond.false)
      | else-mark-eq-EXT-via-else-mark-eq-EXT w ↦ sym (plain_size a.mark a.v w.if-mark-eq-EXT.false)
    ])
