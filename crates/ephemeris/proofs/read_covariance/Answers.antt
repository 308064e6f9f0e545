-- `read_covariance` meets its contract, by the flag and by what `enough` answers.
-- Assumes nothing.
use Prim.Native.Nat.{◌+◌}
use mathlib.Core.Path.{sym, ap, ◌∙◌}
use Rattle.std.specs.Prelude.{Some}
use Rattle.format.specs.At.{found_at}
use Rattle.format.proofs.Passed.{carried}
use Rattle.bit_reader.proofs.Reading.{enough_room}
use Rattle.passing.proofs.Passing.{flag_tested, stopped_answer}
use Rattle.ephemeris.specs.Ephemeris.{covariance_at}
use Rattle.ephemeris.specs.declared.CovarianceData.{CovarianceData}
use Rattle.ephemeris.proofs.Closing.{unclosed, closed_there, closed_short, closed_answer}
use Rattle.ephemeris.proofs.read_covariance.Goals as goal

pub returns-then-not-flag : goal.returns-then-not-flag
returns-then-not-flag c =
    let a = c.args in
    sym (closed_answer _ _ _ _ _ (unclosed a.from.body.now _ a.from.at (flag_tested a.flag c.if-not-flag.true)
    a.from.place.within))

pub returns-in_err-enough : goal.returns-in_err-enough
unfolding covariance_at
returns-in_err-enough c =
    let a = c.args in
    let h = flag_tested a.flag c.if-not-flag.false in
    carried c.from_residual.ensures
    ∙ sym (stopped_answer _ (closed_short a.from.body.now _ a.from.at h c.enough.ensures c.in_err-enough.was))

pub covariance_at-requires : goal.covariance_at-requires
covariance_at-requires c = enough_room _ _ _ _ c.enough.ensures c.in_ok-enough.was c.args.from.place

pub returns : goal.returns
returns c =
    let a = c.args in
    let h = flag_tested a.flag c.if-not-flag.false in
    ap (λ (t : CovarianceData). found_at (Some t) (a.from.at + 728)) c.covariance_at.ensures
    ∙ sym (closed_answer _ _ _ _ _ (closed_there a.from.body.now _ a.from.at h c.enough.ensures a.from.place
    c.in_ok-enough.was))
