-- `read_metadata`: a run and two usable times, whatever follows.
-- Assumes nothing.
use Prim.Native.Nat.{ℕ}
use borrow.Author.Rules.{rules}
use Rattle.std.specs.Int.{from_bool}
use Rattle.format.specs.Syntax.{Syntax}
use Rattle.format.specs.Tables.{usable}
use Rattle.format.specs.declared.Fault.TheVariants.{UsableStartCut, UsableStopCut}
use Rattle.runs.specs.Lines.{run, sign_of, width_of}
use Rattle.read_runs.proofs.CameLaws.{stops, starts, then, need_any}
use Rattle.runs.proofs.Names as names
use Rattle.runs.specs.declared.Flags.{Flags}
use Rattle.read_ephemeris.proofs.read_metadata.Goals as goal

-- what follows the first usable time, and what follows the run
abbrev stop : Flags → Syntax → Syntax
stop f s = usable UsableStopCut "usable_stop_time" (from_bool f.stop) s

abbrev rest : Flags → Syntax → ℕ → Syntax
rest f s _ = usable UsableStartCut "usable_start_time" (from_bool f.start) (stop f s)

pub returns-in_err-times : goal.returns-in_err-times
unfolding run sign_of width_of
returns-in_err-times c =
    λ way s. stops (search rules) (starts (need_any _ _ _ _ _ _) (c.in_err-times.ensures.laid way names.metadata (rest c.args.flags s)))

pub returns-in_err-first : goal.returns-in_err-first
unfolding run sign_of width_of
returns-in_err-first c =
    λ way s. then (starts (need_any _ _ _ _ _ _) (c.in_ok-times.ensures.laid way names.metadata (rest c.args.flags s))).to
    (stops (search rules) (c.in_err-first.ensures way UsableStartCut "usable_start_time" (stop c.args.flags s)))

pub returns : goal.returns
unfolding run sign_of width_of
returns c =
    λ way s. then (starts (need_any _ _ _ _ _ _) (c.in_ok-times.ensures.laid way names.metadata (rest c.args.flags s))).to
    (then (c.in_ok-first.ensures way UsableStartCut "usable_start_time" (stop c.args.flags s)).to
    (c.read_usable-2.ensures way UsableStopCut "usable_stop_time" s))
