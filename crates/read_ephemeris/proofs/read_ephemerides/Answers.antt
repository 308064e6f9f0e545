-- `read_ephemerides`: the count, so many entries, and the covariance.
-- Assumes nothing.
use Prim.Native.Nat.{ℕ}
use mathlib.Core.List.{[], ◌∷◌}
use native.Mathlib.Omega.{arith}
use borrow.Author.Rules.{rules}
use Rattle.std.specs.Int.{from_bool}
use Rattle.format.specs.Syntax.{Syntax}
use Rattle.format.specs.Tables.{times, ephemeris, covariance}
use Rattle.runs.specs.Lines.{run, sign_of, width_of}
use Rattle.runs.proofs.Names as names
use Rattle.read_runs.proofs.CameLaws.{stops, then}
use Rattle.read_runs.proofs.Moved.{run_moved}
use Rattle.runs.specs.declared.Flags.{Flags}
use Rattle.read_ephemeris.proofs.read_ephemerides.Goals as goal

abbrev rest : Flags → ℕ → Syntax
rest f n = times n (ephemeris (from_bool f.acceleration)) (covariance (from_bool f.covariance))

pub returns-in_err-head : goal.returns-in_err-head
unfolding run sign_of width_of
returns-in_err-head c = λ way. stops (search rules) (c.in_err-head.ensures.laid way names.count (rest c.args.flags))

pub read_each-requires : goal.read_each-requires
unfolding width_of
read_each-requires c =
    record { at_value = omega (arith, run_moved (16 ∷ []) c.args.from.placed.within c.in_ok-head.ensures.laid, c.requires.at_value) }

pub returns-in_err-each : goal.returns-in_err-each
unfolding run sign_of width_of
returns-in_err-each c =
    λ way. then (c.in_ok-head.ensures.laid way names.count (rest c.args.flags)).to
    (stops (search rules) (c.in_err-each.ensures way (covariance (from_bool c.args.flags.covariance))))

pub returns : goal.returns
unfolding run sign_of width_of
returns c =
    λ way. then (c.in_ok-head.ensures.laid way names.count (rest c.args.flags)).to
    (then (c.in_ok-each.ensures way (covariance (from_bool c.args.flags.covariance))).to (c.read_covariance.ensures way))
