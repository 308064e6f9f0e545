-- `read_position3`: a proof with the shape of the code, by the description of id 4.
-- Assumes nothing.
use Prim.Native.Nat.{ℕ, ◌<◌}
use mathlib.Core.List.{List, [], ◌∷◌}
use native.Mathlib.Omega.{arith}
use borrow.Author.Rules.{rules}
use lib.Dec.{eqb}
use Rattle.std.specs.Prelude.{Result}
use Rattle.format.specs.declared.Refusal.{Refusal}
use Rattle.format.specs.Syntax.{Syntax, when}
use Rattle.format.specs.Tables.{bits, metadata, ephemerides, position3}
use Rattle.runs.specs.Lines.{run, sign_of, width_of}
use Rattle.read_runs.specs.declared.step.Step.{Step}
use Rattle.read_runs.specs.Came.{Way, Laid}
use Rattle.read_runs.proofs.CameLaws.{stops, then}
use Rattle.read_runs.proofs.Moved.{run_moved}
use Rattle.runs.specs.Flagged.{flagged}
use Rattle.runs.proofs.FlagLaws.{flag_is}
use Rattle.runs.proofs.Names as names
use Rattle.read_ephemeris.proofs.read_position3.Goals as goal

-- what follows each flag
abbrev fifth : ℕ → ℕ → ℕ → ℕ → ℕ → Syntax
fifth m start stop accel cov = when (eqb m 1) (metadata start stop (ephemerides accel cov)) (ephemerides accel cov)

abbrev fourth : ℕ → ℕ → ℕ → ℕ → Syntax
fourth m start stop accel = bits "covariance_flag" 1 (fifth m start stop accel)

abbrev third : ℕ → ℕ → ℕ → Syntax
third m start stop = bits "ephemeris_accel_flag" 1 (fourth m start stop)

abbrev second : ℕ → ℕ → Syntax
second m start = bits "usable_stop_time_flag" 1 (third m start)

abbrev first : ℕ → Syntax
first m = bits "usable_start_time_flag" 1 (second m)

pub returns-in_err-head : goal.returns-in_err-head
unfolding position3 run sign_of width_of
returns-in_err-head c = λ way. stops (search rules) (c.in_err-head.ensures.laid way names.satellite3 first)

pub returns-in_err-start : goal.returns-in_err-start
unfolding position3 run sign_of width_of
returns-in_err-start c =
    λ way. then (c.in_ok-head.ensures.laid way names.satellite3 first).to
    (stops (search rules) (c.in_err-start.ensures.laid way names.start (second c.in_ok-head.head.last)))

pub returns-in_err-stop : goal.returns-in_err-stop
unfolding position3 run sign_of width_of
returns-in_err-stop c =
    λ way. then (c.in_ok-head.ensures.laid way names.satellite3 first).to
    (then (c.in_ok-start.ensures.laid way names.start (second c.in_ok-head.head.last)).to
    (stops (search rules) (c.in_err-stop.ensures.laid way names.stop (third c.in_ok-head.head.last c.in_ok-start.start.last))))

pub returns-in_err-accel : goal.returns-in_err-accel
unfolding position3 run sign_of width_of
returns-in_err-accel c =
    λ way. then (c.in_ok-head.ensures.laid way names.satellite3 first).to
    (then (c.in_ok-start.ensures.laid way names.start (second c.in_ok-head.head.last)).to
    (then (c.in_ok-stop.ensures.laid way names.stop (third c.in_ok-head.head.last c.in_ok-start.start.last)).to
    (stops (search rules) (c.in_err-accel.ensures.laid way names.accel (fourth c.in_ok-head.head.last c.in_ok-start.start.last c.in_ok-stop.stop.last)))))

pub returns-in_err-cov : goal.returns-in_err-cov
unfolding position3 run sign_of width_of
returns-in_err-cov c =
    λ way. then (c.in_ok-head.ensures.laid way names.satellite3 first).to
    (then (c.in_ok-start.ensures.laid way names.start (second c.in_ok-head.head.last)).to
    (then (c.in_ok-stop.ensures.laid way names.stop (third c.in_ok-head.head.last c.in_ok-start.start.last)).to
    (then (c.in_ok-accel.ensures.laid way names.accel (fourth c.in_ok-head.head.last c.in_ok-start.start.last c.in_ok-stop.stop.last)).to
    (stops (search rules) (c.in_err-cov.ensures.laid way names.cov (fifth c.in_ok-head.head.last c.in_ok-start.start.last c.in_ok-stop.stop.last c.in_ok-accel.accel.last))))))

pub read_flagged-requires : goal.read_flagged-requires
unfolding width_of
read_flagged-requires c =
    record {
      at_value = omega (
        arith,
        run_moved (24 ∷ 3 ∷ 1 ∷ []) c.args.from.placed.within c.in_ok-head.ensures.laid,
        run_moved (1 ∷ []) c.in_ok-head.head.placed.within c.in_ok-start.ensures.laid,
        run_moved (1 ∷ []) c.in_ok-start.start.placed.within c.in_ok-stop.ensures.laid,
        run_moved (1 ∷ []) c.in_ok-stop.stop.placed.within c.in_ok-accel.ensures.laid,
        run_moved (1 ∷ []) c.in_ok-accel.accel.placed.within c.in_ok-cov.ensures.laid,
        c.requires.at_value,
      );
    }

-- the flags by their numbers
flagged_by : {l : List ℕ} {place at : ℕ} {out out' : List ℕ} {k : ℕ → Syntax} {r : Result Step Refusal} {way : Way} (m start stop accel cov : ℕ) → start < 2 → stop < 2 → accel < 2 → cov < 2
    → Laid way l (flagged (record { metadata = eqb m 1; start = eqb start 1; stop = eqb stop 1; acceleration = eqb accel 1; covariance = eqb cov 1 })) place at out k out' r
    → Laid way l (fifth m start stop accel cov) place at out k out' r
flagged_by m start stop accel cov s p a v y = rw (flag_is start s, flag_is stop p, flag_is accel a, flag_is cov v) at y

pub returns : goal.returns
unfolding position3 run sign_of width_of
returns c =
    λ way. then (c.in_ok-head.ensures.laid way names.satellite3 first).to
    (then (c.in_ok-start.ensures.laid way names.start (second c.in_ok-head.head.last)).to
    (then (c.in_ok-stop.ensures.laid way names.stop (third c.in_ok-head.head.last c.in_ok-start.start.last)).to
    (then (c.in_ok-accel.ensures.laid way names.accel (fourth c.in_ok-head.head.last c.in_ok-start.start.last c.in_ok-stop.stop.last)).to
    (then (c.in_ok-cov.ensures.laid way names.cov (fifth c.in_ok-head.head.last c.in_ok-start.start.last c.in_ok-stop.stop.last c.in_ok-accel.accel.last)).to
    (flagged_by _ _ _ _ _ c.in_ok-start.ensures.result_bound c.in_ok-stop.ensures.result_bound c.in_ok-accel.ensures.result_bound c.in_ok-cov.ensures.result_bound
    (c.read_flagged.ensures way))))))
