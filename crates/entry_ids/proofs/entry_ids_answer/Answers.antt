-- What was gathered, held to the buffer's length.
-- Assumes nothing.
use mathlib.Core.Path.{ap}
use Rattle.format.proofs.Passed.{carried}
use Rattle.entry_ids.proofs.Bodies.{answer_no, answer_yes}
use Rattle.entry_ids.specs.Steps.{gathered}
use Rattle.entry_ids.proofs.entry_ids_answer.Goals as goal

pub returns-in_err-gather_ids : goal.returns-in_err-gather_ids
returns-in_err-gather_ids c =
    let a = c.args in
    rw (carried c.from_residual.ensures)
    (answer_no a.table_id a.body.now c.gather_ids.ensures a.room (ap (gathered c.gather_ids.new.ids) c.in_err-gather_ids.was))

pub returns : goal.returns
returns c =
    let a = c.args in
    answer_yes a.table_id a.body.now c.gather_ids.ensures (ap (gathered c.gather_ids.new.ids) c.in_ok-gather_ids.was) c.len.ensures.value c.fitted.ensures
