-- The loop's invariant, of an entry a turn.
-- Assumes nothing.
use mathlib.Core.Path.{sym, ◌∙◌}
use native.Mathlib.Omega.{arith}
use Rattle.format.proofs.Passed.{carried}
use Rattle.entry_ids.proofs.Walks.{kept_first, kept_next, kept_less, kept_over, kept_stop}
use Rattle.entry_ids.proofs.list_ids.Goals as goal

pub loop-at-init : goal.loop-at-init
loop-at-init c =
    let a = c.args in
    kept_first a.table a.from.body.now a.from.at a.ids.now.items a.from.place.within c.requires.at_value c.requires.empty

pub returns-in_err-next : goal.returns-in_err-next
returns-in_err-next c =
    let a = c.args in
    let l = c.loop-at in
    rw (carried c.from_residual.ensures)
    (kept_stop a.table a.from.body.now a.from.at l.at l.ids.items l.invariant _
    (omega (arith, c.least_bits-least.ensures))
    (sym (rw (c.to-entry.ensures.0, c.to-entry.ensures.1) at c.entry_end.ensures) ∙ c.in_err-next.was))

pub loop-at-smaller : goal.loop-at-smaller
loop-at-smaller c =
    let a = c.args in
    let l = c.loop-at in
    kept_less a.table a.from.body.now a.from.at l.at l.ids.items l.invariant _
    (omega (arith, c.least_bits-least.ensures))
    (sym (rw (c.to-entry.ensures.0, c.to-entry.ensures.1) at c.entry_end.ensures) ∙ c.in_ok-next.was)

pub loop-at-preserved : goal.loop-at-preserved
loop-at-preserved c =
    let a = c.args in
    let l = c.loop-at in
    kept_next a.table a.from.body.now a.from.at l.at l.ids.items l.invariant _
    (omega (arith, c.least_bits-least.ensures))
    (sym (rw (c.to-entry.ensures.0, c.to-entry.ensures.1) at c.entry_end.ensures) ∙ c.in_ok-next.was)
    (rw (c.to-entry.ensures.0, c.to-entry.ensures.1) at c.entry_id-id.ensures) c.join.ensures

pub returns : goal.returns
returns c =
    let a = c.args in
    let l = c.loop-at in
    kept_over a.table a.from.body.now a.from.at l.at l.ids.items l.invariant
    (omega (arith, c.least_bits-least.ensures))
