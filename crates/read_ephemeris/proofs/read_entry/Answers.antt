-- `read_entry`: one of two runs, by the flag, whatever follows.
-- Assumes nothing.
use Rattle.runs.specs.Lines.{run, sign_of, width_of}
use Rattle.runs.proofs.FlagLaws.{flag_tested}
use Rattle.runs.proofs.Names as names
use Rattle.read_runs.proofs.CameLaws.{starts, when_yes, when_no, need_any}
use Rattle.read_ephemeris.proofs.read_entry.Goals as goal

pub returns-then-accel : goal.returns-then-accel
unfolding run sign_of width_of
returns-then-accel c =
    λ way s. starts (when_yes _ _ _ _ _ _ (flag_tested _ c.if-accel.true))
    (starts (need_any _ _ _ _ _ _) (c.read_run.ensures.laid way names.accelerated (λ _. s)))

pub returns : goal.returns
unfolding run sign_of width_of
returns c =
    λ way s. starts (when_no _ _ _ _ _ _ (flag_tested _ c.if-accel.false))
    (starts (need_any _ _ _ _ _ _) (c.read_run-2.ensures.laid way names.motion (λ _. s)))
