-- `write_ended`: where a plan ends, what is refused at its end, and what stands between its fields and the next plan.
-- Assumes nothing.
use mathlib.Core.Path.{refl}
use native.Mathlib.Omega.{arith}
use Rattle.format.specs.Tables.{hopping}
use Rattle.bits.proofs.Answers.{got_all, got_lt, next_place}
use Rattle.bits.proofs.Places.{end_fits}
use Rattle.format.proofs.Passed.{carried}
use Rattle.write_plans.proofs.PlanLaws.{hopping_byte, length_appended, plan_done, plan_over, plan_cut, plan_no}
use Rattle.write_plans.proofs.write_ended.Goals as goal

pub returns-in_err-bytes : goal.returns-in_err-bytes
returns-in_err-bytes c =
    rw (carried c.from_residual.ensures) (record { to = plan_cut _ _ _ _ _ c.args.from.placed.within c.in_err-bytes.ensures })

pub overflow_mul-stop : goal.overflow_mul-stop
overflow_mul-stop c = omega (arith, got_lt c.args.from.body.now c.args.from.at 12 refl c.in_ok-bytes.ensures)

pub overflow_add-stop : goal.overflow_add-stop
overflow_add-stop c =
    let a = c.args in
    let placed = c.args.from.placed in
    let q = c.in_ok-bytes.ensures in
    omega (arith, got_lt a.from.body.now a.from.at 12 refl q, (got_all a.from.body.now a.from.at 12 q refl).next, placed.within, placed.short)

pub overflow_cast-stop-2 : goal.overflow_cast-stop-2
overflow_cast-stop-2 c =
    let a = c.args in
    let q = c.in_ok-bytes.ensures in
    end_fits _ (next_place a.from.at 12 refl q c.args.from.placed.short) (got_lt a.from.body.now a.from.at 12 refl q)

pub write_hopping-requires : goal.write_hopping-requires
write_hopping-requires c =
    let a = c.args in
    let g = got_all a.from.body.now a.from.at 12 c.in_ok-bytes.ensures refl in
    record { at_value = omega (arith, c.requires.at_value, g.next) }

pub invariant_of-start : goal.invariant_of-start
invariant_of-start c =
    let a = c.args in
    let p = a.from.placed in
    let g = got_all a.from.body.now a.from.at 12 c.in_ok-bytes.ensures refl in
    let from = length_appended a.edition c.in_ok-bytes.bytes.value c.write_length-place.ensures in
    record { placed = record { short = p.short; within = omega (arith, g.next, g.there); behind = omega (arith, from, p.behind, g.next) } }

pub returns-in_err-hopping : goal.returns-in_err-hopping
returns-in_err-hopping c =
    rw (carried c.from_residual-in_err-hopping.ensures) (plan_no _ _ _ _ c.in_ok-bytes.ensures refl (c.in_err-hopping.ensures c.args.edition))

pub returns-then-passed : goal.returns-then-passed
returns-then-passed c =
    record { to = plan_over _ _ _ _ c.in_ok-bytes.ensures refl (c.in_ok-hopping.ensures c.args.edition).to.1 c.if-passed.true }

pub overflow_cast-stop-3 : goal.overflow_cast-stop-3
overflow_cast-stop-3 c =
    let a = c.args in
    let q = c.in_ok-bytes.ensures in
    let e = end_fits _ (next_place a.from.at 12 refl q c.args.from.placed.short) (got_lt a.from.body.now a.from.at 12 refl q) in
    record { fits = omega (arith, e) }

pub write_filler-behind-requires : goal.write_filler-behind-requires
write_filler-behind-requires c =
    let a = c.args in
    let pre = c.requires in
    let g = got_all a.from.body.now a.from.at 12 c.in_ok-bytes.ensures refl in
    let l = c.min-next.ensures in
    let r = (c.in_ok-hopping.ensures a.edition).to in
    let w = r.1 in (
      omega (arith, w.within, c.if-passed.false),
      rw r.0 (omega arith),
      hopping_byte w (omega (arith, g.next, g.there)) (omega (arith, pre.at_value, g.next)) (omega (arith, pre.at_value, g.next)),
      omega (arith, pre.at_value, g.next),
    )

pub invariant_of-result : goal.invariant_of-result
invariant_of-result c =
    let a = c.args in
    let p = a.from.placed in
    let r = (c.in_ok-hopping.ensures a.edition).to in
    let w = plan_done a.from.body.now "plan_length" hopping a.from.at c.in_ok-bytes.ensures refl c.min-next.ensures c.write_length-place.ensures r.1 c.if-passed.false
    (rw r.0 at c.write_filler-behind.ensures) in
    record { placed = record { short = p.short; within = w.within; behind = omega (arith, w.slack, p.behind) } }

pub returns : goal.returns
returns c =
    let a = c.args in
    let r = (c.in_ok-hopping.ensures a.edition).to in
    record { to = (refl, plan_done _ _ _ _ c.in_ok-bytes.ensures refl c.min-next.ensures c.write_length-place.ensures r.1 c.if-passed.false (rw r.0 at c.write_filler-behind.ensures)) }
