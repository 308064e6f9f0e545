-- `write_ephemerides` meets its contract: the count, the entries, the covariance, one on top of the other.
-- Assumes nothing.
use Prim.Native.Nat.{ℕ}
use mathlib.Core.Path.{refl}
use Rattle.std.specs.Int.{from_bool}
use Rattle.format.specs.Syntax.{Syntax, end}
use Rattle.format.specs.Tables.{times, ephemeris, covariance}
use Rattle.runs.specs.declared.Flags.{Flags}
use Rattle.runs.specs.Lines.{run, sign_of, width_of}
use Rattle.runs.proofs.FlagLaws.{flag_tested}
use Rattle.runs.proofs.Names as names
use Rattle.format.proofs.Passed.{carried}
use Rattle.write_runs.proofs.WentLaws.{stops, starts, on, stay, when_yes, when_no}
use Rattle.write_ephemeris.proofs.write_ephemerides.Goals as goal

abbrev rest : Flags → ℕ → Syntax
rest f n = times n (ephemeris (from_bool f.acceleration)) (covariance (from_bool f.covariance))

pub returns-in_err-count : goal.returns-in_err-count
unfolding run sign_of width_of
returns-in_err-count c = rw (carried c.from_residual.ensures) (λ e. stops (c.in_err-count.ensures.ran e names.count (rest c.args.flags)))

pub returns-in_err-each : goal.returns-in_err-each
unfolding run sign_of width_of
returns-in_err-each c =
    let f = c.args.flags in
    rw (carried c.from_residual-in_err-each.ensures) (λ e. on (c.in_ok-count.ensures.ran e names.count (rest f))
    (stops (c.in_err-each.ensures e (covariance (from_bool f.covariance)))))

pub returns-then-flags : goal.returns-then-flags
unfolding run sign_of width_of
returns-then-flags c =
    let f = c.args.flags in
    λ e. on (c.in_ok-count.ensures.ran e names.count (rest f))
    (on (c.in_ok-each.ensures e (covariance (from_bool f.covariance)))
    (starts (when_yes _ _ _ _ _ _ (flag_tested f.covariance c.if-flags.true)) (c.write_needed.ensures.ran e names.covariance (λ _. end))))

pub returns : goal.returns
unfolding run sign_of width_of
returns c =
    let f = c.args.flags in
    λ e. on (c.in_ok-count.ensures.ran e names.count (rest f))
    (on (c.in_ok-each.ensures e (covariance (from_bool f.covariance)))
    (starts (when_no _ _ _ _ _ _ (flag_tested f.covariance c.if-flags.false)) (record { to = (refl, stay c.in_ok-each.each.placed.within) })))
