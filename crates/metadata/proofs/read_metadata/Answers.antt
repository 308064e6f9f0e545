-- `read_metadata` meets its contract: its flag, its fixed fields, and each usable time by what `read_usable` answers.
-- Assumes nothing.
use Prim.Native.Nat.{◌+◌}
use mathlib.Core.Path.{sym, ap, ◌∙◌}
use Rattle.std.specs.Prelude.{Some}
use Rattle.std.specs.Int.{from_bool}
use Rattle.format.specs.At.{found_at}
use Rattle.format.specs.declared.Fault.TheVariants.{UsableStartCut, UsableStopCut}
use Rattle.bits.specs.Read.{Place}
use Rattle.format.proofs.Passed.{carried}
use Rattle.bit_reader.proofs.Reading.{enough_room}
use Rattle.passing.proofs.Passing.{flag_tested, told_answer, stopped_answer}
use Rattle.metadata.specs.Metadata.{metadata_at}
use Rattle.metadata.specs.declared.PositionV3Metadata.{PositionV3Metadata}
use Rattle.metadata.proofs.Times.{Used, used_told, used_stopped}
use Rattle.metadata.proofs.Blocks.{none, block_short, behind_fixed, start_short, stop_short, all_there}
use Rattle.metadata.proofs.read_metadata.Goals as goal
use Rattle.metadata.proofs.read_metadata.Goals.{In_ok-enough, In_ok-first}

-- where the start is read, and what is known behind it
place : (c : In_ok-enough) → Place c.args.from.body.now (c.args.from.at + 120)
place c =
    let a = c.args in
    behind_fixed a.from.body.now (from_bool a.meta) (from_bool a.start) (from_bool a.stop) a.from.at
    (flag_tested a.meta c.if-none.false) c.enough.ensures
    c.args.from.place c.in_ok-enough.was

start : (c : In_ok-first) → let a = c.args in
    Used a.from.body.now UsableStartCut (from_bool a.start) (a.from.at + 120) c.in_ok-first.first.value
    c.in_ok-first.first.next
start c =
    let a = c.args in
    let p = enough_room a.from.body.now a.from.at 120 _ c.enough.ensures c.in_ok-enough.was c.args.from.place in
    used_told a.from.body.now UsableStartCut (from_bool a.start) (a.from.at + 120)
    (record { short = p.short; within = p.fits }) (rw (c.to.ensures.0, c.to.ensures.1) at c.read_usable.ensures)
    c.in_ok-first.was

behind : (c : In_ok-first) → Place c.args.from.body.now c.in_ok-first.first.next
behind c = record { short = c.args.from.place.short; within = (start c).passed.within }

pub returns-then-none : goal.returns-then-none
unfolding metadata_at
returns-then-none c =
    let a = c.args in
    sym (told_answer _ _ (none a.from.body.now _ _ _ a.from.at (flag_tested a.meta c.if-none.true)
    a.from.place.within))

pub returns-in_err-enough : goal.returns-in_err-enough
unfolding metadata_at
returns-in_err-enough c =
    let a = c.args in
    let h = flag_tested a.meta c.if-none.false in
    carried c.from_residual.ensures
    ∙ sym (stopped_answer _ (block_short a.from.body.now _ (from_bool a.start) (from_bool a.stop) a.from.at h
    c.enough.ensures c.in_err-enough.was))

pub to-requires : goal.to-requires
to-requires c = place (goal.at.to-requires c).In_ok-enough

pub returns-in_err-first : goal.returns-in_err-first
unfolding metadata_at
returns-in_err-first c =
    let a = c.args in
    let h = flag_tested a.meta c.if-none.false in
    let s = used_stopped a.from.body.now UsableStartCut _ _ (place (goal.at.returns-in_err-first c).In_ok-enough)
    (rw (c.to.ensures.0, c.to.ensures.1) at c.read_usable.ensures) c.in_err-first.was in
    carried c.from_residual-in_err-first.ensures
    ∙ sym (stopped_answer _ (start_short a.from.body.now _ _ (from_bool a.stop) a.from.at h c.enough.ensures
    c.args.from.place c.in_ok-enough.was s))

pub to-requires-2 : goal.to-requires-2
to-requires-2 c = behind (goal.at.to-requires-2 c).In_ok-first

pub returns-in_err-last : goal.returns-in_err-last
unfolding metadata_at
returns-in_err-last c =
    let a = c.args in
    let h = flag_tested a.meta c.if-none.false in
    let f = (goal.at.returns-in_err-last c).In_ok-first in
    let s = used_stopped a.from.body.now UsableStopCut _ _ (behind f)
    (rw (c.to-2.ensures.0, c.to-2.ensures.1) at c.read_usable-2.ensures) c.in_err-last.was in
    carried c.from_residual-in_err-last.ensures
    ∙ sym (stopped_answer _ (stop_short a.from.body.now _ _ _ a.from.at h c.enough.ensures c.args.from.place
    c.in_ok-enough.was (start f) s))

pub returns : goal.returns
unfolding metadata_at
returns c =
    let a = c.args in
    let h = flag_tested a.meta c.if-none.false in
    let f = (goal.at.returns c).In_ok-first in
    let u = used_told a.from.body.now UsableStopCut _ _ (behind f)
    (rw (c.to-2.ensures.0, c.to-2.ensures.1) at c.read_usable-2.ensures) c.in_ok-last.was in
    ap (λ (m : PositionV3Metadata). found_at (Some m) c.in_ok-last.last.next) c.metadata_at.ensures
    ∙ sym (told_answer _ _ (all_there a.from.body.now _ _ _ a.from.at h c.enough.ensures a.from.place
    c.in_ok-enough.was (start f) u))
