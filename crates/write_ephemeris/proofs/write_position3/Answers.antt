-- `write_position3` meets its contract: the flags one behind the other, then what they announce.
-- Assumes nothing.
use Prim.Native.Nat.{ℕ}
use lib.Dec.{eqb}
use Rattle.format.specs.Syntax.{Syntax, when}
use Rattle.format.specs.Tables.{bits, metadata, ephemerides, position3}
use Rattle.runs.specs.Lines.{run, sign_of, width_of}
use Rattle.runs.proofs.Names as names
use Rattle.format.proofs.Passed.{carried}
use Rattle.write_runs.proofs.WentLaws.{stops, on}
use Rattle.runs.proofs.FlagLaws.{flag_is}
use Rattle.write_ephemeris.proofs.write_position3.Goals as goal

-- what follows each flag, with those in front of it
abbrev sixth : ℕ → ℕ → ℕ → ℕ → ℕ → Syntax
sixth meta start stop accel cov = when (eqb meta 1) (metadata start stop (ephemerides accel cov)) (ephemerides accel cov)

abbrev fifth : ℕ → ℕ → ℕ → ℕ → Syntax
fifth meta start stop accel = bits "covariance_flag" 1 (sixth meta start stop accel)

abbrev fourth : ℕ → ℕ → ℕ → Syntax
fourth meta start stop = bits "ephemeris_accel_flag" 1 (fifth meta start stop)

abbrev third : ℕ → ℕ → Syntax
third meta start = bits "usable_stop_time_flag" 1 (fourth meta start)

abbrev second : ℕ → Syntax
second meta = bits "usable_start_time_flag" 1 (third meta)

pub returns-in_err-metadata : goal.returns-in_err-metadata
unfolding position3 run sign_of width_of
returns-in_err-metadata c =
    rw (carried c.from_residual.ensures) (λ e. (stops (c.in_err-metadata.ensures.ran e names.satellite3 second)))

pub returns-in_err-start : goal.returns-in_err-start
unfolding position3 run sign_of width_of
returns-in_err-start c =
    let meta = c.in_ok-metadata.metadata.last in
    rw (carried c.from_residual-in_err-start.ensures) (λ e. (on (c.in_ok-metadata.ensures.ran e names.satellite3 second)
    (stops (c.in_err-start.ensures.ran e names.start (third meta)))))

pub returns-in_err-stop : goal.returns-in_err-stop
unfolding position3 run sign_of width_of
returns-in_err-stop c =
    let meta = c.in_ok-metadata.metadata.last in
    let start = c.in_ok-start.start.last in
    rw (carried c.from_residual-in_err-stop.ensures) (λ e. (on (c.in_ok-metadata.ensures.ran e names.satellite3 second)
    (on (c.in_ok-start.ensures.ran e names.start (third meta))
    (stops (c.in_err-stop.ensures.ran e names.stop (fourth meta start))))))

pub returns-in_err-acceleration : goal.returns-in_err-acceleration
unfolding position3 run sign_of width_of
returns-in_err-acceleration c =
    let meta = c.in_ok-metadata.metadata.last in
    let start = c.in_ok-start.start.last in
    let stop = c.in_ok-stop.stop.last in
    rw (carried c.from_residual-in_err-acceleration.ensures) (λ e. (on (c.in_ok-metadata.ensures.ran e names.satellite3 second)
    (on (c.in_ok-start.ensures.ran e names.start (third meta))
    (on (c.in_ok-stop.ensures.ran e names.stop (fourth meta start))
    (stops (c.in_err-acceleration.ensures.ran e names.accel (fifth meta start stop)))))))

pub returns-in_err-covariance : goal.returns-in_err-covariance
unfolding position3 run sign_of width_of
returns-in_err-covariance c =
    let meta = c.in_ok-metadata.metadata.last in
    let start = c.in_ok-start.start.last in
    let stop = c.in_ok-stop.stop.last in
    let accel = c.in_ok-acceleration.acceleration.last in
    rw (carried c.from_residual-in_err-covariance.ensures) (λ e. (on (c.in_ok-metadata.ensures.ran e names.satellite3 second)
    (on (c.in_ok-start.ensures.ran e names.start (third meta))
    (on (c.in_ok-stop.ensures.ran e names.stop (fourth meta start))
    (on (c.in_ok-acceleration.ensures.ran e names.accel (fifth meta start stop))
    (stops (c.in_err-covariance.ensures.ran e names.cov (sixth meta start stop accel))))))))

pub returns : goal.returns
unfolding position3 run sign_of width_of
returns c =
    let meta = c.in_ok-metadata.metadata.last in
    let start = c.in_ok-start.start.last in
    let stop = c.in_ok-stop.stop.last in
    let accel = c.in_ok-acceleration.acceleration.last in
    let cov = c.in_ok-covariance.covariance.last in
    λ e. (on (c.in_ok-metadata.ensures.ran e names.satellite3 second)
    (on (c.in_ok-start.ensures.ran e names.start (third meta))
    (on (c.in_ok-stop.ensures.ran e names.stop (fourth meta start))
    (on (c.in_ok-acceleration.ensures.ran e names.accel (fifth meta start stop))
    (on (c.in_ok-covariance.ensures.ran e names.cov (sixth meta start stop accel))
    (rw (
      flag_is start c.in_ok-start.ensures.result_bound,
      flag_is stop c.in_ok-stop.ensures.result_bound,
      flag_is accel c.in_ok-acceleration.ensures.result_bound,
      flag_is cov c.in_ok-covariance.ensures.result_bound,
    )
    at (c.write_flagged.ensures e)))))))
