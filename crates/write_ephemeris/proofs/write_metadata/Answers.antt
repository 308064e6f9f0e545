-- `write_metadata` meets its contract: by its flag, with each usable time by its own.
-- Assumes nothing.
use Prim.Native.Nat.{ℕ}
use Rattle.std.specs.Int.{from_bool}
use Rattle.format.specs.Syntax.{Syntax}
use Rattle.format.specs.Tables.{usable}
use Rattle.format.specs.declared.Fault.TheVariants.{UsableStartCut, UsableStopCut}
use Rattle.runs.specs.declared.Flags.{Flags}
use Rattle.runs.specs.Lines.{run, sign_of, width_of}
use Rattle.runs.proofs.Names as names
use Rattle.format.proofs.Passed.{carried}
use Rattle.write_runs.proofs.WentLaws.{stops, on}
use Rattle.write_ephemeris.proofs.write_metadata.Goals as goal

abbrev last : Flags → Syntax → Syntax
last f s = usable UsableStopCut "usable_stop_time" (from_bool f.stop) s

abbrev rest : Flags → Syntax → ℕ → Syntax
rest f s v = usable UsableStartCut "usable_start_time" (from_bool f.start) (last f s)

pub returns-in_err-fixed : goal.returns-in_err-fixed
unfolding run sign_of width_of
returns-in_err-fixed c =
    λ e s. rw (carried c.from_residual.ensures) (stops (c.in_err-fixed.ensures.ran e names.metadata (rest c.args.flags s)))

pub returns-in_err-start : goal.returns-in_err-start
unfolding run sign_of width_of
returns-in_err-start c =
    let f = c.args.flags in
    λ e s. rw (carried c.from_residual-in_err-start.ensures) (on (c.in_ok-fixed.ensures.ran e names.metadata (rest f s))
    (stops (c.in_err-start.ensures e "usable_start_time" (last f s))))

pub returns : goal.returns
unfolding run sign_of width_of
returns c =
    let f = c.args.flags in
    λ e s. on (c.in_ok-fixed.ensures.ran e names.metadata (rest f s))
    (on (c.in_ok-start.ensures e "usable_start_time" (last f s)) (c.write_usable-2.ensures e "usable_stop_time" s))
