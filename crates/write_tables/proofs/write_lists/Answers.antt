-- `write_lists` meets its contract: three lists, one behind the other.
-- Assumes nothing.
use Prim.Native.Nat.{ℕ, ◌*◌}
use native.Mathlib.Omega.{arith}
use Rattle.format.specs.Syntax.{Syntax, need, end}
use Rattle.format.specs.Tables.{times, system, new, obsolescent}
use Rattle.format.specs.declared.Fault.TheVariants.{NewSystemsCut, ObsolescentSystemsCut}
use Rattle.runs.specs.Lines.{run, sign_of, width_of}
use Rattle.runs.proofs.Names as names
use Rattle.format.proofs.Passed.{carried}
use Rattle.write_runs.proofs.WentLaws.{stops, on}
use Rattle.write_tables.proofs.write_lists.Goals as goal

abbrev news : ℕ → Syntax
news n = need NewSystemsCut (n * 80) (times n (system "new_delivery_system_id" "time_of_application") obsolescent)

abbrev olds : ℕ → Syntax
olds n = need ObsolescentSystemsCut (n * 80) (times n (system "obsolescent_delivery_system_id" "time_of_obsolescence") end)

pub returns-in_err-ids : goal.returns-in_err-ids
unfolding run sign_of width_of
returns-in_err-ids c = rw (carried c.from_residual.ensures) (λ e. stops (c.in_err-ids.ensures.ran e names.delivery new))

pub returns-in_err-new : goal.returns-in_err-new
unfolding run sign_of width_of
returns-in_err-new c =
    rw (carried c.from_residual-in_err-new.ensures) (λ e. on (c.in_ok-ids.ensures.ran e names.delivery new)
    (stops (c.in_err-new.ensures.ran e names.new_count news)))

pub write_counted-requires-2-clause-count_bound : goal.write_counted-requires-2-clause-count_bound
unfolding width_of
write_counted-requires-2-clause-count_bound c = omega (arith, c.in_ok-new.ensures.result_bound)

pub returns-in_err-systems : goal.returns-in_err-systems
unfolding run sign_of width_of
returns-in_err-systems c =
    rw (carried c.from_residual-in_err-systems.ensures) (λ e. on (c.in_ok-ids.ensures.ran e names.delivery new)
    (on (c.in_ok-new.ensures.ran e names.new_count news)
    (stops (c.in_err-systems.ensures.ran e names.new_system obsolescent))))

pub returns-in_err-old : goal.returns-in_err-old
unfolding run sign_of width_of
returns-in_err-old c =
    rw (carried c.from_residual-in_err-old.ensures) (λ e. on (c.in_ok-ids.ensures.ran e names.delivery new)
    (on (c.in_ok-new.ensures.ran e names.new_count news)
    (on (c.in_ok-systems.ensures.ran e names.new_system obsolescent)
    (stops (c.in_err-old.ensures.ran e names.old_count olds)))))

pub write_counted-requires-3-clause-count_bound : goal.write_counted-requires-3-clause-count_bound
unfolding width_of
write_counted-requires-3-clause-count_bound c = omega (arith, c.in_ok-old.ensures.result_bound)

pub returns : goal.returns
unfolding run sign_of width_of
returns c =
    λ e. on (c.in_ok-ids.ensures.ran e names.delivery new)
    (on (c.in_ok-new.ensures.ran e names.new_count news)
    (on (c.in_ok-systems.ensures.ran e names.new_system obsolescent)
    (on (c.in_ok-old.ensures.ran e names.old_count olds)
    (c.write_counted-3.ensures.ran e names.old_system end))))
