-- `read_usable` meets its contract, by the flag and by what `enough` answers.
-- Assumes nothing.
use Prim.Native.Nat.{◌+◌}
use mathlib.Core.Path.{sym, ap, ◌∙◌}
use Rattle.std.specs.Prelude.{Some}
use Rattle.format.specs.At.{found_at}
use Rattle.format.proofs.Passed.{carried}
use Rattle.bit_reader.proofs.Reading.{enough_room}
use Rattle.passing.proofs.Passing.{flag_tested, told_answer, stopped_answer}
use Rattle.metadata.specs.Metadata.{usable_at}
use Rattle.metadata.specs.declared.UsableTime.{UsableTime}
use Rattle.metadata.proofs.Times.{unused, used_there, used_short}
use Rattle.metadata.proofs.read_usable.Goals as goal

pub returns-then-not-flag : goal.returns-then-not-flag
unfolding usable_at
returns-then-not-flag c =
    let a = c.args in
    sym (told_answer _ _ (unused a.from.body.now a.fault _ a.from.at (flag_tested a.flag c.if-not-flag.true)
    a.from.place.within))

pub returns-in_err-enough : goal.returns-in_err-enough
unfolding usable_at
returns-in_err-enough c =
    let a = c.args in
    let h = flag_tested a.flag c.if-not-flag.false in
    carried c.from_residual.ensures
    ∙ sym (stopped_answer _ (used_short a.from.body.now a.fault _ a.from.at h c.enough.ensures c.in_err-enough.was))

pub usable_at-requires : goal.usable_at-requires
usable_at-requires c = enough_room _ _ _ _ c.enough.ensures c.in_ok-enough.was c.args.from.place

pub returns : goal.returns
unfolding usable_at
returns c =
    let a = c.args in
    let h = flag_tested a.flag c.if-not-flag.false in
    ap (λ (t : UsableTime). found_at (Some t) (a.from.at + 56)) c.usable_at.ensures
    ∙ sym (told_answer _ _ (used_there a.from.body.now a.fault _ a.from.at h c.enough.ensures a.from.place
    c.in_ok-enough.was))
