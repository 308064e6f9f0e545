-- `read_plan` meets its contract: one step a field of the head, then the fields behind it.
-- Assumes nothing.
use Prim.Native.Nat.{◌+◌, ◌*◌}
use mathlib.Core.Path.{◌∙◌}
use native.Mathlib.Omega.{arith}
use Rattle.format.proofs.Passed.{carried}
use Rattle.format.specs.Tables.{beamhopping}
use Rattle.bits.proofs.Answers.{next_place, got_fits}
use Rattle.bits.proofs.Places.{end_fits}
use Rattle.plan_modes.proofs.Reached.{start, number, no_number, no_plan}
use Rattle.plan.specs.Plan.{plan_at}
use Rattle.plan.proofs.Fields.{Head, head_of, cut_fields, got_fields}
use Rattle.plan.proofs.read_plan.Goals as goal
use Rattle.plan.proofs.read_plan.Goals.{In_ok-bytes}

-- what is known behind the plan's head
head : (c : In_ok-bytes) →
    let x = c.in_ok-bytes.bytes in
    Head c.args.from.body.now (x.next + 8 * x.value) c.args.from.at x.next c.in_ok-id.id.value
    c.in_ok-kept.kept.value x.value
head c =
    let kept_read = rw (c.to.ensures.0, c.to.ensures.1) at c.read_u-2.ensures in
    let bytes_read = rw (c.to-2.ensures.0, c.to-2.ensures.1) at c.read_u-3.ensures in
    head_of c.args.from.at c.args.from.place c.read_u.ensures c.in_ok-id.was kept_read c.in_ok-kept.was
    bytes_read c.in_ok-bytes.was

pub returns-in_err-id : goal.returns-in_err-id
unfolding plan_at beamhopping
returns-in_err-id c =
    carried c.from_residual.ensures
    ∙ no_number (start beamhopping _ _ _ c.args.from.place) c.read_u.ensures c.in_err-id.was

pub to-requires : goal.to-requires
to-requires c = next_place _ 32 c.in_ok-id.was c.read_u.ensures c.args.from.place.short

pub returns-in_err-kept : goal.returns-in_err-kept
unfolding plan_at beamhopping
returns-in_err-kept c =
    let kept_read = rw (c.to.ensures.0, c.to.ensures.1) at c.read_u-2.ensures in
    let t1 = number (start beamhopping _ _ _ c.args.from.place) c.read_u.ensures c.in_ok-id.was in
    carried c.from_residual-in_err-kept.ensures ∙ no_number t1 kept_read c.in_err-kept.was

pub to-requires-2 : goal.to-requires-2
to-requires-2 c =
    let kept_read = rw (c.to.ensures.0, c.to.ensures.1) at c.read_u-2.ensures in
    next_place _ 4 c.in_ok-kept.was kept_read c.args.from.place.short

pub returns-in_err-bytes : goal.returns-in_err-bytes
unfolding plan_at beamhopping
returns-in_err-bytes c =
    let kept_read = rw (c.to.ensures.0, c.to.ensures.1) at c.read_u-2.ensures in
    let bytes_read = rw (c.to-2.ensures.0, c.to-2.ensures.1) at c.read_u-3.ensures in
    let t1 = number (start beamhopping _ _ _ c.args.from.place) c.read_u.ensures c.in_ok-id.was in
    let t2 = number t1 kept_read c.in_ok-kept.was in
    carried c.from_residual-in_err-bytes.ensures ∙ no_plan t2 bytes_read c.in_err-bytes.was

pub overflow_mul-end : goal.overflow_mul-end
overflow_mul-end c = omega (arith, (head (goal.at.overflow_mul-end c).In_ok-bytes).small)

pub overflow_add-end : goal.overflow_add-end
overflow_add-end c = let h = head (goal.at.overflow_add-end c).In_ok-bytes in omega (arith, h.small, h.reached.place)

pub overflow_cast-end-2 : goal.overflow_cast-end-2
overflow_cast-end-2 c = let h = head (goal.at.overflow_cast-end-2 c).In_ok-bytes in end_fits _ h.reached.place h.small

pub overflow_cast-head : goal.overflow_cast-head
overflow_cast-head c = got_fits _ _ 32 c.in_ok-id.was c.read_u.ensures tt

pub overflow_cast-head-2 : goal.overflow_cast-head-2
overflow_cast-head-2 c =
    let kept_read = rw (c.to.ensures.0, c.to.ensures.1) at c.read_u-2.ensures in
    got_fits _ _ 4 c.in_ok-kept.was kept_read tt

pub overflow_cast-head-3 : goal.overflow_cast-head-3
overflow_cast-head-3 c =
    let bytes_read = rw (c.to-2.ensures.0, c.to-2.ensures.1) at c.read_u-3.ensures in
    got_fits _ _ 12 c.in_ok-bytes.was bytes_read tt

pub to-requires-3 : goal.to-requires-3
to-requires-3 c = (head (goal.at.to-requires-3 c).In_ok-bytes).reached.place

pub read_fields-requires : goal.read_fields-requires
read_fields-requires c =
    let h = head (goal.at.read_fields-requires c).In_ok-bytes in omega (arith, h.begins, c.to-3.ensures, c.requires)

pub returns-in_err-found : goal.returns-in_err-found
returns-in_err-found c =
    let fields_read = rw (c.to-3.ensures.0, c.to-3.ensures.1) at c.read_fields.ensures in
    carried c.from_residual-in_err-found.ensures
    ∙ cut_fields _ _ _ _ _ _ _ (head (goal.at.returns-in_err-found c).In_ok-bytes)
    fields_read c.in_err-found.was

pub returns : goal.returns
returns c =
    let fields_read = rw (c.to-3.ensures.0, c.to-3.ensures.1) at c.read_fields.ensures in
    c.closed.ensures ∙ got_fields _ _ _ _ _ _ _ (head (goal.at.returns c).In_ok-bytes)
    fields_read c.in_ok-found.was
