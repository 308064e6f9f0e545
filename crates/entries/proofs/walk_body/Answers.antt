-- By the id: too long, no list, a list behind its header.
-- Assumes nothing.
use mathlib.Core.Path.{sym, ◌∙◌}
use Rattle.std.proofs.Common.{Err}
use Rattle.format.proofs.Passed.{carried}
use Rattle.entries.specs.Entries.{walked}
use Rattle.format.proofs.NamedLaws.{named_list, named_none}
use Rattle.entries.proofs.Bodies.{headed, head_ends, no_head_end, seek_over, seek_list, seek_unheaded}
use Rattle.entries.proofs.walk_body.Goals as goal

pub returns-then-s-gt4096-clause-value : goal.returns-then-s-gt4096-clause-value
returns-then-s-gt4096-clause-value c = seek_over c.args.index walked Err c.args.s.now c.args.table_id c.if-s-gt4096.true

pub returns-in_err-at-in-Some-clause-value : goal.returns-in_err-at-in-Some-clause-value
returns-in_err-at-in-Some-clause-value c =
    let a = c.args in
    rw (carried c.from_residual.ensures, named_list c.of.ensures c.in-Some.is)
    (seek_unheaded a.index walked Err a.s.now _ c.if-s-gt4096.false c.head_end.ensures c.in_err-at-in-Some.was)

pub invariant_of-seek_entries : goal.invariant_of-seek_entries
invariant_of-seek_entries c =
    let h = headed c.args.s.now _ _ (sym c.head_end.ensures ∙ c.in_ok-at-in-Some.was) in
    record { place = record { short = c.if-s-gt4096.false; within = h.within } }

pub seek_entries-requires : goal.seek_entries-requires
seek_entries-requires c =
    record { at_value = (headed c.args.s.now _ _ (sym c.head_end.ensures ∙ c.in_ok-at-in-Some.was)).byte }

pub returns-in_ok-at-in-Some-clause-value : goal.returns-in_ok-at-in-Some-clause-value
returns-in_ok-at-in-Some-clause-value c =
    let a = c.args in
    rw (named_list c.of.ensures c.in-Some.is)
    (seek_list a.index walked Err a.s.now _ _ c.if-s-gt4096.false (sym c.head_end.ensures ∙ c.in_ok-at-in-Some.was)
    c.seek_entries.ensures.value)

pub returns-in_ok-at-in-Some-clause-sure : goal.returns-in_ok-at-in-Some-clause-sure
returns-in_ok-at-in-Some-clause-sure c =
    let a = c.args in
    let id = named_list c.of.ensures c.in-Some.is in
    rw (id, head_ends _ a.s.now _ (sym c.head_end.ensures ∙ c.in_ok-at-in-Some.was)) c.seek_entries.ensures.sure

pub returns-in-None-clause-sure : goal.returns-in-None-clause-sure
returns-in-None-clause-sure c =
    rw (no_head_end c.args.table_id c.args.s.now (named_none c.of.ensures c.in-None.is)) c.sole_entry.ensures.sure
