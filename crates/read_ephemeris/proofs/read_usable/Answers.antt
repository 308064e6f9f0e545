-- `read_usable`: a stamp or nothing, whatever follows.
-- Assumes nothing.
use mathlib.Core.Path.{refl}
use mathlib.Core.List.{[]}
use Rattle.runs.specs.Lines.{run, sign_of, width_of}
use Rattle.read_runs.proofs.CameLaws.{stays, starts, when_yes, when_no, need_any}
use Rattle.runs.proofs.FlagLaws.{flag_tested}
use Rattle.runs.proofs.Names as names
use Rattle.read_ephemeris.proofs.read_usable.Goals as goal

pub returns-then-flag : goal.returns-then-flag
unfolding run sign_of width_of
returns-then-flag c =
    λ way fault nm s. starts (when_yes _ _ _ _ _ _ (flag_tested _ c.if-flag.true))
    (starts (need_any _ _ _ fault 56 _) (c.read_run.ensures.laid way (names.stamp nm []) (λ _. s)))

pub returns : goal.returns
returns c = λ way fault nm s. starts (when_no _ _ _ _ _ _ (flag_tested _ c.if-flag.false)) (stays c.args.from refl)
