-- `write_entry` meets its contract: by the acceleration flag, one run or the other.
-- Assumes nothing.
use Rattle.runs.specs.Lines.{run, sign_of, width_of}
use Rattle.runs.proofs.FlagLaws.{flag_tested}
use Rattle.runs.proofs.Names as names
use Rattle.write_runs.proofs.WentLaws.{starts, when_yes, when_no}
use Rattle.write_ephemeris.proofs.write_entry.Goals as goal

pub returns-then-accel : goal.returns-then-accel
unfolding run sign_of width_of
returns-then-accel c =
    λ e k. starts (when_yes _ _ _ _ _ _ (flag_tested c.args.accel c.if-accel.true)) (c.write_needed.ensures.ran e names.accelerated k)

pub returns : goal.returns
unfolding run sign_of width_of
returns c =
    λ e k. starts (when_no _ _ _ _ _ _ (flag_tested c.args.accel c.if-accel.false)) (c.write_needed-2.ensures.ran e names.motion k)
