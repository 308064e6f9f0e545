-- A refusal leaves the buffer, and else what was gathered is copied.
-- Assumes nothing.
use mathlib.Core.Path.{sym, ap, ◌∙◌}
use lib.ListN.{length}
use Rattle.std.proofs.lemmas.List.{length-take-le}
use Rattle.format.proofs.Passed.{carried}
use Rattle.entry_ids.proofs.Bodies.{answer_no, left_no, answer_yes, left_short, room_for, left_yes}
use Rattle.entry_ids.specs.Steps.{gathered}
use Rattle.entry_ids.proofs.entry_ids.Goals as goal

pub returns-in_err-gather_ids : goal.returns-in_err-gather_ids
returns-in_err-gather_ids c =
    let a = c.args in
    let g = c.gather_ids.ensures in
    let m = ap (gathered c.gather_ids.new.ids) c.in_err-gather_ids.was in
    rw (carried c.from_residual.ensures)
    (answer_no a.table_id a.body.now g (length a.out.now) m, left_no a.table_id a.body.now g a.out.now m)

pub returns-in_err-output : goal.returns-in_err-output
returns-in_err-output c =
    let a = c.args in
    let g = c.gather_ids.ensures in
    let m = ap (gathered c.gather_ids.new.ids) c.in_ok-gather_ids.was in
    let e = sym c.in_err-output.was ∙ answer_yes a.table_id a.body.now g m c.len-count.ensures.value c.fitted.ensures in
    rw (carried c.from_residual-in_err-output.ensures) (e, left_short a.table_id a.body.now g a.out.now m e)

pub slice_bounds-copy_from_slice-end : goal.slice_bounds-copy_from_slice-end
slice_bounds-copy_from_slice-end c =
    let a = c.args in
    let g = c.gather_ids.ensures in
    let m = ap (gathered c.gather_ids.new.ids) c.in_ok-gather_ids.was in
    room_for a.table_id a.body.now g a.out.now m c.len-count.ensures.value
    (sym c.in_ok-output.was ∙ answer_yes a.table_id a.body.now g m c.len-count.ensures.value c.fitted.ensures)

pub slice_bounds-copy_from_slice-end-2 : goal.slice_bounds-copy_from_slice-end-2
slice_bounds-copy_from_slice-end-2 c =
    let a = c.args in
    let g = c.gather_ids.ensures in
    let m = ap (gathered c.gather_ids.new.ids) c.in_ok-gather_ids.was in
    let s = c.len-count.ensures.value in
    let e = sym c.in_ok-output.was ∙ answer_yes a.table_id a.body.now g m s c.fitted.ensures in
    sym (length-take-le _ a.out.now (room_for a.table_id a.body.now g a.out.now m s e))

pub copy_from_slice-requires : goal.copy_from_slice-requires
copy_from_slice-requires c =
    let a = c.args in
    let g = c.gather_ids.ensures in
    let m = ap (gathered c.gather_ids.new.ids) c.in_ok-gather_ids.was in
    let s = c.len-count.ensures.value in
    let e = sym c.in_ok-output.was ∙ answer_yes a.table_id a.body.now g m s c.fitted.ensures in
    let r = room_for a.table_id a.body.now g a.out.now m s e in
    length-take-le _ a.out.now r ∙ s ∙ ap length (sym c.deref.ensures.0)

pub returns : goal.returns
returns c =
    let a = c.args in
    let g = c.gather_ids.ensures in
    let m = ap (gathered c.gather_ids.new.ids) c.in_ok-gather_ids.was in
    let s = c.len-count.ensures.value in
    let e = sym c.in_ok-output.was ∙ answer_yes a.table_id a.body.now g m s c.fitted.ensures in
    let r = room_for a.table_id a.body.now g a.out.now m s e in
    (e, left_yes a.table_id a.body.now g a.out.now m s r (c.copy_from_slice.ensures.after ∙ c.deref.ensures.0))
