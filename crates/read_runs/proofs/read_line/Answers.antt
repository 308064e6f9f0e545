-- `read_line`: the bytes are missing, or are no number of the field, or its bits are laid where there is a buffer.
-- Assumes nothing.
use mathlib.Core.Path.{refl, sym, ◌∙◌}
use native.Mathlib.Nat.{mod-lt}
use native.Mathlib.Omega.{arith}
use lib.Pow.{pow_pos}
use borrow.Author.Rules.{rules}
use Rattle.format.proofs.DigitLaws.{length_digits}
use Rattle.runs.specs.Lines.{width_of}
use Rattle.runs.proofs.MarkLaws.{mark_facts}
use Rattle.read_runs.proofs.CameLaws.{line_done, missing, wrong}
use Rattle.read_runs.proofs.Stores.{fits}
use Rattle.read_runs.proofs.read_line.Goals as goal

pub returns-then-ledger-place : goal.returns-then-ledger-place
returns-then-ledger-place c = record {
  laid = λ way nm k. record
      { to = rw c.refused_at.ensures (missing _ _ _ nm _ k c.size_of-size.ensures c.requires.placed.within c.if-ledger-place.true) };
  result_bound = pow_pos _;
}

pub get_be-x-requires : goal.get_be-x-requires
get_be-x-requires c =
    let pre = c.requires in
    omega (
      arith,
      c.requires.placed.within,
      (mark_facts c.args.mark pre.valid).eight,
      c.size_of-size.ensures,
      c.if-ledger-place.false,
    )

pub returns-then-shown_of-x : goal.returns-then-shown_of-x
returns-then-shown_of-x c =
    let a = c.args in
    let pre = c.requires in
    let size = c.size_of-size.ensures in
    let there = c.if-ledger-place.false in
    let number = c.get_be-x.ensures in
    let low = c.low_of-v.ensures in
    let shown = c.shown_of.ensures in record {
      laid = λ way nm k. record {
        to = rw c.refused_at-then-shown_of-x.ensures
            (wrong _ _ _ nm a.mark k size pre.placed.within there number low (λ z. c.if-shown_of-x.true (shown ∙ z)));
      };
      result_bound = pow_pos _;
    }

pub overflow_add-end-2 : goal.overflow_add-end-2
overflow_add-end-2 c =
    let pre = c.requires in
    let p = pre.placed in
    omega (arith, p.within, p.short, p.behind, (mark_facts c.args.mark pre.valid).most, c.width_of-width.ensures)

pub returns-then-out-eq0 : goal.returns-then-out-eq0
returns-then-out-eq0 c =
    let a = c.args in
    let pre = c.requires in
    let size = c.size_of-size.ensures in
    let there = c.if-ledger-place.false in
    let number = c.get_be-x in
    let low = c.low_of-v.ensures in
    let shown = c.shown_of.ensures in
    let right = c.if-shown_of-x.false in
    let width = c.width_of-width.ensures in
    let some = (mark_facts a.mark pre.valid).some in record {
      laid = λ way nm k. record {
        to = line_done nm a.mark k pre.valid width size pre.placed.within there number.ensures low (sym shown ∙ right) (λ h. absurd (omega (arith, c.if-out-eq0.true, some, width))) (refl);
      };
      result_bound = rw low (mod-lt number.result (pow_pos (width_of a.mark)));
    }

pub lay-requires : goal.lay-requires
lay-requires c =
    let a = c.args in
    let pre = c.requires in
    omega (
      arith,
      pre.placed.within,
      pre.placed.short,
      pre.placed.behind,
      (mark_facts a.mark pre.valid).some,
      (mark_facts a.mark pre.valid).most,
      c.width_of-width.ensures,
    )

pub returns : goal.returns
returns c =
    let a = c.args in
    let pre = c.requires in
    let size = c.size_of-size.ensures in
    let there = c.if-ledger-place.false in
    let number = c.get_be-x in
    let low = c.low_of-v.ensures in
    let shown = c.shown_of.ensures in
    let right = c.if-shown_of-x.false in
    let width = c.width_of-width.ensures in record {
      laid = λ way nm k. record {
        to = line_done nm a.mark k pre.valid width size pre.placed.within there number.ensures low (sym shown ∙ right) (fits a.out.now _ _ _ _ c.lay.ensures (length_digits 2 _ _)) (search rules);
      };
      result_bound = rw low (mod-lt number.result (pow_pos (width_of a.mark)));
    }
