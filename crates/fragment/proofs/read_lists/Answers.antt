-- `read_lists` meets its contract: behind each list and each field by the case of its answer.
-- Assumes nothing.
use Rattle.std.proofs.Common.{rules}
use Rattle.bits.proofs.Answers.{got_fits}
use Rattle.format.proofs.Passed.{carried}
use Rattle.fragment.proofs.Stages.{start, one, two, three, four, ids_cut, systems_cut, field_cut, all_read}
use Rattle.fragment.proofs.read_lists.Goals as goal

pub returns-in_err-ids : goal.returns-in_err-ids
returns-in_err-ids c = ids_cut _ _ (start _ _ c.args.from.place) c.read_part.ensures c.in_err-ids.was (carried c.from_residual.ensures)

pub to-requires : goal.to-requires
to-requires c = (one _ _ c.args.from.place c.read_part.ensures c.in_ok-ids.was).come.place

pub returns-in_err-reserved_new : goal.returns-in_err-reserved_new
returns-in_err-reserved_new c =
    let h = one _ _ c.args.from.place c.read_part.ensures c.in_ok-ids.was in
    let gap1 = rw (c.to.ensures.0, c.to.ensures.1) at c.read_u.ensures in
    field_cut _ _ "reserved_zero_future_use_new" 6 _ h.come gap1 c.in_err-reserved_new.was
    (carried c.from_residual-in_err-reserved_new.ensures)

pub to-requires-2 : goal.to-requires-2
to-requires-2 c =
    let gap1 = rw (c.to.ensures.0, c.to.ensures.1) at c.read_u.ensures in
    let h = two _ _ c.args.from.place c.read_part.ensures c.in_ok-ids.was gap1 c.in_ok-reserved_new.was in
    h.come.place

pub returns-in_err-new : goal.returns-in_err-new
returns-in_err-new c =
    let gap1 = rw (c.to.ensures.0, c.to.ensures.1) at c.read_u.ensures in
    let h = two _ _ c.args.from.place c.read_part.ensures c.in_ok-ids.was gap1 c.in_ok-reserved_new.was in
    let list2 = rw (c.to-2.ensures.0, c.to-2.ensures.1) at c.read_systems.ensures in
    systems_cut _ _ "new_delivery_system_id" "time_of_application" h.come list2 c.in_err-new.was
    (carried c.from_residual-in_err-new.ensures)

pub to-requires-3 : goal.to-requires-3
to-requires-3 c =
    let gap1 = rw (c.to.ensures.0, c.to.ensures.1) at c.read_u.ensures in
    let list2 = rw (c.to-2.ensures.0, c.to-2.ensures.1) at c.read_systems.ensures in
    let h =
    three _ _ c.args.from.place c.read_part.ensures c.in_ok-ids.was gap1 c.in_ok-reserved_new.was list2 c.in_ok-new.was in
    h.come.place

pub returns-in_err-reserved_old : goal.returns-in_err-reserved_old
returns-in_err-reserved_old c =
    let gap1 = rw (c.to.ensures.0, c.to.ensures.1) at c.read_u.ensures in
    let list2 = rw (c.to-2.ensures.0, c.to-2.ensures.1) at c.read_systems.ensures in
    let h =
    three _ _ c.args.from.place c.read_part.ensures c.in_ok-ids.was gap1 c.in_ok-reserved_new.was list2 c.in_ok-new.was in
    let gap2 = rw (c.to-3.ensures.0, c.to-3.ensures.1) at c.read_u-2.ensures in
    field_cut _ _ "reserved_zero_future_use_obsolescent" 6 _ h.come gap2 c.in_err-reserved_old.was
    (carried c.from_residual-in_err-reserved_old.ensures)

pub to-requires-4 : goal.to-requires-4
to-requires-4 c =
    let gap1 = rw (c.to.ensures.0, c.to.ensures.1) at c.read_u.ensures in
    let list2 = rw (c.to-2.ensures.0, c.to-2.ensures.1) at c.read_systems.ensures in
    let gap2 = rw (c.to-3.ensures.0, c.to-3.ensures.1) at c.read_u-2.ensures in
    let h =
    four _ _ c.args.from.place c.read_part.ensures c.in_ok-ids.was gap1 c.in_ok-reserved_new.was list2 c.in_ok-new.was
    gap2 c.in_ok-reserved_old.was in
    h.come.place

pub returns-in_err-old : goal.returns-in_err-old
returns-in_err-old c =
    let gap1 = rw (c.to.ensures.0, c.to.ensures.1) at c.read_u.ensures in
    let list2 = rw (c.to-2.ensures.0, c.to-2.ensures.1) at c.read_systems.ensures in
    let gap2 = rw (c.to-3.ensures.0, c.to-3.ensures.1) at c.read_u-2.ensures in
    let h =
    four _ _ c.args.from.place c.read_part.ensures c.in_ok-ids.was gap1 c.in_ok-reserved_new.was list2 c.in_ok-new.was
    gap2 c.in_ok-reserved_old.was in
    let list3 = rw (c.to-4.ensures.0, c.to-4.ensures.1) at c.read_systems-2.ensures in
    systems_cut _ _ "obsolescent_delivery_system_id" "time_of_obsolescence" h.come list3 c.in_err-old.was
    (carried c.from_residual-in_err-old.ensures)

pub overflow_cast-result : goal.overflow_cast-result
overflow_cast-result c = search (got_fits, c.in_ok-reserved_new.was, rules)

pub overflow_cast-result-2 : goal.overflow_cast-result-2
overflow_cast-result-2 c = search (got_fits, c.in_ok-reserved_old.was, rules)

pub returns : goal.returns
returns c =
    let gap1 = rw (c.to.ensures.0, c.to.ensures.1) at c.read_u.ensures in
    let list2 = rw (c.to-2.ensures.0, c.to-2.ensures.1) at c.read_systems.ensures in
    let gap2 = rw (c.to-3.ensures.0, c.to-3.ensures.1) at c.read_u-2.ensures in
    let h =
    four _ _ c.args.from.place c.read_part.ensures c.in_ok-ids.was gap1 c.in_ok-reserved_new.was list2 c.in_ok-new.was
    gap2 c.in_ok-reserved_old.was in
    let list3 = rw (c.to-4.ensures.0, c.to-4.ensures.1) at c.read_systems-2.ensures in
    all_read _ _ h list3 c.in_ok-old.was
