-- An entry a turn; the law of places says what the loop has seen.
-- Assumes nothing.
use mathlib.Core.Path.{sym, ◌∙◌}
use native.Mathlib.Omega.{arith}
use Rattle.std.proofs.Common.{Err}
use Rattle.format.proofs.StartLaws as laws
use Rattle.format.proofs.Passed.{carried}
use Rattle.entries.specs.Entries.{walked}
use Rattle.format.proofs.NamedLaws.{fine_entry, least_entry, byte_entry}
use Rattle.entries.proofs.seek_entries.Goals as goal
use Rattle.entries.proofs.seek_entries.Goals.{then-count-index, else-count-index}

pub returns-in_err-next-clause-value : goal.returns-in_err-next-clause-value
returns-in_err-next-clause-value c =
    let a = c.args in
    let l = c.loop-at in
    rw (carried c.from_residual.ensures)
    (laws.seek_stop _ _ (fine_entry a.table) (least_entry a.table) (byte_entry a.table)
    a.from.body.now a.from.at a.index l.at l.count l.place l.invariant walked Err _
    (omega (arith, c.least_bits-least.ensures))
    (sym (rw (c.to.ensures.0, c.to.ensures.1) at c.entry_end.ensures) ∙ c.in_err-next.was))

pub loop-at-smaller : goal.loop-at-smaller
loop-at-smaller c =
    let a = c.args in
    let l = c.loop-at in
    laws.kept_less _ _ (fine_entry a.table) (least_entry a.table) (byte_entry a.table)
    a.from.body.now a.from.at a.index l.at l.count l.place l.invariant _
    (omega (arith, c.least_bits-least.ensures))
    (sym (rw (c.to.ensures.0, c.to.ensures.1) at c.entry_end.ensures) ∙ c.in_ok-next.was)

pub loop-at-preserved : goal.loop-at-preserved
loop-at-preserved c =
    let a = c.args in
    let l = c.loop-at in
    let e = sym (rw (c.to.ensures.0, c.to.ensures.1) at c.entry_end.ensures) ∙ c.in_ok-next.was in
    elim c.if-count-index.branch [
      | then-count-index w ↦
          rw w.place-is
          (laws.kept_here _ _ (fine_entry a.table) (least_entry a.table) (byte_entry a.table)
          a.from.body.now a.from.at a.index l.at l.count l.place l.invariant _
          (omega (arith, c.least_bits-least.ensures)) e w.if-count-index.true)
      | else-count-index w ↦
          rw w.place-is
          (laws.kept_past _ _ (fine_entry a.table) (least_entry a.table) (byte_entry a.table)
          a.from.body.now a.from.at a.index l.at l.count l.place l.invariant _
          (omega (arith, c.least_bits-least.ensures)) e w.if-count-index.false)
    ]

pub returns-clause-value : goal.returns-clause-value
returns-clause-value c =
    let a = c.args in
    let l = c.loop-at in
    laws.seek_over _ _ (fine_entry a.table) (least_entry a.table) (byte_entry a.table)
    a.from.body.now a.from.at a.index l.at l.count l.place l.invariant walked Err
    (omega (arith, c.least_bits-least.ensures))
