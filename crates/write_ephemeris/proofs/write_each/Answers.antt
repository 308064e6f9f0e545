-- `write_each` meets its contract: an entry a turn, in the part of the buffer that begins where the last one ended, and
-- what that is of the whole buffer.
-- Assumes nothing.
use mathlib.Core.Path.{refl}
use native.Mathlib.Omega.{arith}
use Rattle.std.specs.Int.{from_bool}
use Rattle.format.proofs.Passed.{carried}
use Rattle.write_runs.proofs.Lent.{lent}
use Rattle.write_runs.proofs.Runs.{begin, next, stop, ended}
use Rattle.write_ephemeris.specs.Rest.{ephemeris_to}
use Rattle.write_ephemeris.proofs.Each.{left_all, left_next, left_end}
use Rattle.write_ephemeris.proofs.write_each.Goals as goal

pub loop-init : goal.loop-init
loop-init c = begin c.args.from.placed (left_all (from_bool c.args.accel) c.args.count)

pub invariant_of-part : goal.invariant_of-part
invariant_of-part c =
    let p = c.loop.invariant.placed in
    record { placed = record { short = p.short; within = p.within; behind = omega arith } }

pub returns-in_err-entry : goal.returns-in_err-entry
returns-in_err-entry c =
    let a = c.args in
    let l = c.loop in
    rw (carried c.from_residual.ensures) (λ e s. record {
      to = stop (ephemeris_to (from_bool a.accel)) l.invariant
          (λ k. left_next (from_bool a.accel) a.count 0 l.counter k (omega arith)) (λ e k. (c.in_err-entry.ensures e k).to) e (λ _. s);
    })

pub loop-preserved : goal.loop-preserved
loop-preserved c =
    let a = c.args in
    let l = c.loop in
    let z =
    next (ephemeris_to (from_bool a.accel)) l.invariant
    (λ k. left_next (from_bool a.accel) a.count 0 l.counter k (omega arith))
    (λ e k. lent l.out _ l.place (omega (arith, c.min-start.ensures)) (c.in_ok-entry.ensures e k).to.1)
    in
    record { went = z.went; placed = z.placed; long = z.long }

pub invariant_of-result : goal.invariant_of-result
invariant_of-result c = record { placed = c.loop.invariant.placed }

pub returns : goal.returns
returns c =
    let a = c.args in
    let l = c.loop in
    λ e s. record { to = (refl, ended l.invariant e (λ _. s) s (left_end (from_bool a.accel) a.count 0 l.counter (λ _. s) (omega arith))) }
