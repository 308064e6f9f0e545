-- `read_slots`: bytes that are missing, bits that are set behind the slots, and slots laid.
-- Assumes nothing.
use mathlib.Core.Path.{refl, sym, ◌∙◌}
use borrow.Author.Rules.{rules}
use Rattle.format.specs.Body.{wholes}
use Rattle.read_plans.proofs.SlotLaws.{part_of, slots_came, slots_wrong, slots_missing}
use Rattle.format.proofs.DigitLaws.{length_bits}
use Rattle.read_runs.proofs.Stores.{fits}
use Rattle.read_plans.proofs.read_slots.Goals as goal

pub returns-then-from-whole : goal.returns-then-from-whole
returns-then-from-whole c = λ way nm s. record { to = rw c.refused_at.ensures (slots_missing _ _ _ _ nm s c.args.from.placed.within c.if-from-whole.true) }

pub returns-then-value_at-ne0 : goal.returns-then-value_at-ne0
returns-then-value_at-ne0 c =
    let a = c.args in
    let pre = c.requires in
    λ way nm s. record
    { to = rw c.refused_at-then-value_at-ne0.ensures (slots_wrong _ _ _ _ _ a.from.placed.within c.if-from-whole.false (part_of a.from.ledger.now a.from.place (wholes a.m)) nm s (λ z. c.if-value_at-ne0.true (c.value_at.ensures ∙ z))) }

pub returns : goal.returns
returns c =
    let a = c.args in
    let if1 = c.if-from-whole in
    let pre = c.requires in
    λ way nm s. record
    { to = record { same = refl; came = slots_came _ _ _ _ _ a.from.placed.within if1.false (part_of a.from.ledger.now a.from.place (wholes a.m)) nm s (sym c.value_at.ensures ∙ c.if-value_at-ne0.false) (fits _ _ _ _ _ c.lay_bytes.ensures (length_bits _)) (search rules) } }
