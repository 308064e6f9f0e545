-- `read_covariance`: a stamp and 21 values, or nothing.
-- Assumes nothing.
use mathlib.Core.Path.{refl}
use Rattle.format.specs.Syntax.{end}
use Rattle.runs.specs.Lines.{run, sign_of, width_of}
use Rattle.runs.proofs.FlagLaws.{flag_tested}
use Rattle.runs.proofs.Names as names
use Rattle.read_runs.proofs.CameLaws.{stays, starts, when_yes, when_no, need_any}
use Rattle.read_ephemeris.proofs.read_covariance.Goals as goal

pub returns-then-flag : goal.returns-then-flag
unfolding run sign_of width_of
returns-then-flag c =
    λ way. starts (when_yes _ _ _ _ _ end (flag_tested _ c.if-flag.true))
    (starts (need_any _ _ _ _ _ _) (c.read_run.ensures.laid way names.covariance (λ _. end)))

pub returns : goal.returns
returns c = λ way. starts (when_no _ _ _ _ _ _ (flag_tested _ c.if-flag.false)) (stays c.args.from refl)
