-- `write_flagged` meets its contract: the metadata by its flag, then the entries.
-- Assumes nothing.
use Rattle.std.specs.Int.{from_bool}
use Rattle.format.specs.Syntax.{Syntax}
use Rattle.format.specs.Tables.{ephemerides}
use Rattle.runs.specs.declared.Flags.{Flags}
use Rattle.format.proofs.Passed.{carried}
use Rattle.write_runs.proofs.WentLaws.{stops, starts, on, when_yes, when_no}
use Rattle.write_ephemeris.proofs.write_flagged.Goals as goal

abbrev rest : Flags → Syntax
rest f = ephemerides (from_bool f.acceleration) (from_bool f.covariance)

pub returns-in_err-known : goal.returns-in_err-known
returns-in_err-known c =
    rw (carried c.from_residual.ensures) (λ e. starts (when_yes _ _ _ _ _ _ c.if-flags.true)
    (stops (c.in_err-known.ensures e (rest c.args.flags))))

pub returns-then-flags : goal.returns-then-flags
returns-then-flags c =
    λ e. starts (when_yes _ _ _ _ _ _ c.if-flags.true)
    (on (c.in_ok-known.ensures e (rest c.args.flags)) (c.write_ephemerides.ensures e))

pub returns : goal.returns
returns c =
    λ e. starts (when_no _ _ _ _ _ _ c.if-flags.false) (c.write_ephemerides-2.ensures e)
