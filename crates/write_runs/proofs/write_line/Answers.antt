-- `write_line` meets its contract: by the bits that remain, the field is stored or refused.
-- Assumes nothing.
use native.Mathlib.Omega.{arith}
use Rattle.bits.proofs.Values.{value_at_lt}
use Rattle.runs.proofs.MarkLaws.{mark_facts, sized_no, sized_yes}
use Rattle.write_runs.proofs.WentLaws.{line_done, line_no, line_damaged}
use Rattle.write_runs.proofs.write_line.Goals as goal

pub overflow_add-need : goal.overflow_add-need
overflow_add-need c =
    let a = c.args in
    let p = c.requires.placed in
    let f = mark_facts a.mark c.requires.valid in
    record { fits = omega (arith, c.width_of-width.ensures, f.most, p.within, p.short) }

pub returns-then-have-need-clause-ran : goal.returns-then-have-need-clause-ran
returns-then-have-need-clause-ran c =
    let a = c.args in
    λ e nm k. record { to = line_no a.body.now e a.at nm a.mark k c.width_of-width.ensures c.requires.placed.within (omega arith) }

pub value_at-v-requires : goal.value_at-v-requires
value_at-v-requires c =
    let a = c.args in
    let p = c.requires.placed in
    let f = mark_facts a.mark c.requires.valid in
    record { room = record { short = omega (arith, p.short); fits = omega arith }; bits_bound = omega (arith, c.width_of-width.ensures, f.most) }

pub returns-in_default-clause-ran : goal.returns-in_default-clause-ran
returns-in_default-clause-ran c =
    let a = c.args in
    let o = sized_no a.mark _ c.in_default.ensures in
    λ e nm k. rw (c.damaged.ensures, ← o.1)
    (record { to = line_damaged a.body.now e a.at nm a.mark k c.width_of-width.ensures (omega arith) c.value_at-v.ensures o.0 })

pub shown_of-requires : goal.shown_of-requires
shown_of-requires c =
    let w = c.width_of-width.ensures in
    record { valid = c.requires.valid; v_bound = rw (c.value_at-v.ensures, ← w) (value_at_lt c.args.body.now c.args.at _) }

pub put-requires : goal.put-requires
put-requires c =
    let p = c.requires.placed in
    let o = sized_yes c.args.mark _ c.in-Some.ensures in
    omega (arith, (mark_facts c.args.mark c.requires.valid).eight, p.behind, p.within, p.short, o.1)

pub overflow_add-result : goal.overflow_add-result
overflow_add-result c =
    let p = c.requires.placed in
    let o = sized_yes c.args.mark _ c.in-Some.ensures in
    record { fits = omega (arith, (mark_facts c.args.mark c.requires.valid).eight, p.behind, p.within, p.short, o.1) }

pub returns : goal.returns
returns c =
    let a = c.args in
    let w = c.width_of-width.ensures in
    let v = c.value_at-v.ensures in
    let o = sized_yes a.mark _ c.in-Some.ensures in
    let p = c.requires.placed in
    let f = mark_facts a.mark c.requires.valid in
    let x = c.shown_of in record {
      ran = λ e nm k. record {
        to = line_done nm a.mark k c.requires.valid w o.1 (omega arith) v o.0 (rw (← x.ensures) c.put.ensures);
      };
      result_bound = rw (v, ← w) (value_at_lt a.body.now a.at _);
      moved = record { to = (omega (arith, w), omega (arith, o.1)) };
    }
