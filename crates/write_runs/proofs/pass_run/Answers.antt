-- `pass_run` meets its contract: a mark a turn.
-- Assumes nothing.
use mathlib.Core.Path.{◌≡◌, sym}
use native.Mathlib.Omega.{arith}
use lib.ListN.{length}
use Rattle.runs.proofs.MarkLaws.{sized_no, sized_yes}
use Rattle.write_runs.proofs.Passes.{pass_none, pass_placed, pass_mark, pass_few, pass_eight, pass_one, pass_stops, pass_damaged, pass_ends, pass_moved}
use Rattle.write_runs.proofs.pass_run.Goals as goal

pub loop-mark-init : goal.loop-mark-init
loop-mark-init c = pass_none c.requires.placed

pub overflow_add-need : goal.overflow_add-need
overflow_add-need c =
    let l = c.loop-mark in
    let pre = c.requires in
    omega (
      arith,
      (pass_placed l.invariant).within,
      (pass_placed l.invariant).short,
      pass_few l.invariant c.loop-mark-test.true pre.valid
          c.width_of-width.ensures,
    )

pub returns-then-have-need-clause-ran : goal.returns-then-have-need-clause-ran
returns-then-have-need-clause-ran c =
    λ e nms k. pass_stops c.loop-mark.invariant c.loop-mark-test.true c.width_of-width.ensures (omega arith) e nms k

pub size_at-requires : goal.size_at-requires
size_at-requires c =
    let l = c.loop-mark in
    let w = c.width_of-width.ensures in
    record { room = record { short = omega (arith, (pass_placed l.invariant).short); fits = omega (arith, w) }; valid = pass_mark l.invariant c.loop-mark-test.true c.requires.valid }

pub value_at-requires : goal.value_at-requires
value_at-requires c =
    let l = c.loop-mark in
    let few = pass_few l.invariant c.loop-mark-test.true c.requires.valid c.width_of-width.ensures in
    record { room = record { short = omega (arith, (pass_placed l.invariant).short); fits = omega arith }; bits_bound = few }

pub returns-in_default-clause-ran : goal.returns-in_default-clause-ran
returns-in_default-clause-ran c =
    let w = c.width_of-width.ensures in
    let o = sized_no _ _ (rw (← w) at c.in_default.ensures) in
    λ e nms k. rw (c.damaged.ensures, c.value_at.ensures)
    (pass_damaged c.loop-mark.invariant c.loop-mark-test.true w (omega arith) (sym o.1) (rw (← o.1) o.0) e nms k)

pub overflow_add-there : goal.overflow_add-there
overflow_add-there c =
    let l = c.loop-mark in
    let o = sized_yes _ _ c.in-Some.ensures in
    let eight = pass_eight l.invariant c.loop-mark-test.true c.requires.valid o.1 in
    omega (arith, (pass_placed l.invariant).within, (pass_placed l.invariant).short, (pass_placed l.invariant).behind, eight)

pub loop-mark-preserved : goal.loop-mark-preserved
loop-mark-preserved c =
    let w = c.width_of-width.ensures in
    let o = sized_yes _ _ c.in-Some.ensures in
    pass_one c.loop-mark.invariant c.loop-mark-test.true w c.requires.valid o.1 (omega arith) (rw w o.0)

pub value_at-requires-2 : goal.value_at-requires-2
value_at-requires-2 c =
    let st = c.loop-mark.invariant in
    record { room = record { short = omega (arith, (pass_placed st).short); fits = omega (arith, (pass_placed st).within, st.inside) }; bits_bound = st.few }

pub returns : goal.returns
returns c =
    let st = c.loop-mark.invariant in
    let z : c.loop-mark.mark-index ≡ length c.args.marks.now = omega arith in
    record { ran = λ e nms k. pass_ends st z c.value_at-2.ensures e nms k; result_bound = rw (c.value_at-2.ensures, ← z) st.last; moved = pass_moved st z }
