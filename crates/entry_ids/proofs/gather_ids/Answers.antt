-- By the id: too long, no list, a list behind its header.
-- Assumes nothing.
use mathlib.Core.Path.{sym, ◌∙◌}
use Rattle.std.proofs.Common.{Err}
use Rattle.format.proofs.Passed.{carried}
use Rattle.entries.specs.Entries.{walked}
use Rattle.format.proofs.NamedLaws.{named_list, named_none}
use Rattle.entries.proofs.Bodies.{headed, seek_over, seek_unheaded}
use Rattle.entry_ids.proofs.Bodies.{gathered_no, gathered_none, gathered_list}
use Rattle.entry_ids.proofs.gather_ids.Goals as goal

pub returns-then-s-gt4096 : goal.returns-then-s-gt4096
returns-then-s-gt4096 c =
    let a = c.args in
    gathered_no a.table_id a.s.now 0 (seek_over 0 walked Err a.s.now a.table_id c.if-s-gt4096.true)

pub returns-in_err-at-in-Some : goal.returns-in_err-at-in-Some
returns-in_err-at-in-Some c =
    let b = c.args.s.now in
    rw (carried c.from_residual.ensures, named_list c.of.ensures c.in-Some.is)
    (gathered_no _ b 0 (seek_unheaded 0 walked Err b _ c.if-s-gt4096.false c.head_end.ensures c.in_err-at-in-Some.was))

pub invariant_of-list_ids : goal.invariant_of-list_ids
invariant_of-list_ids c =
    let h = headed c.args.s.now _ _ (sym c.head_end.ensures ∙ c.in_ok-at-in-Some.was) in
    record { place = record { short = c.if-s-gt4096.false; within = h.within } }

pub list_ids-requires-clause-at_value : goal.list_ids-requires-clause-at_value
list_ids-requires-clause-at_value c = (headed c.args.s.now _ _ (sym c.head_end.ensures ∙ c.in_ok-at-in-Some.was)).byte

pub returns-in_ok-at-in-Some : goal.returns-in_ok-at-in-Some
returns-in_ok-at-in-Some c =
    rw (named_list c.of.ensures c.in-Some.is)
    (gathered_list _ c.args.s.now _ c.if-s-gt4096.false (sym c.head_end.ensures ∙ c.in_ok-at-in-Some.was) c.list_ids.ensures)

pub returns-in_err-walk_body-in-None : goal.returns-in_err-walk_body-in-None
returns-in_err-walk_body-in-None c =
    let a = c.args in
    rw (carried c.from_residual-in_err-walk_body-in-None.ensures)
    (gathered_no a.table_id a.s.now 0 (sym c.in_err-walk_body-in-None.was ∙ c.walk_body.ensures.value))

pub returns-in_ok-walk_body-in-None : goal.returns-in_ok-walk_body-in-None
returns-in_ok-walk_body-in-None c =
    let a = c.args in
    gathered_none a.table_id a.s.now 0 (named_none c.of.ensures c.in-None.is)
    (sym c.in_ok-walk_body-in-None.was ∙ c.walk_body.ensures.value) c.requires
