-- `write_each` meets its contract: an entry a turn, from the place where the last one ended.
-- Assumes nothing.
use Rattle.std.specs.Int.{from_bool}
use Rattle.format.specs.Tables.{times, ephemeris}
use Rattle.write_runs.proofs.Runs.{Along}
use Rattle.write_ephemeris.proofs.Each.{left}
use Rattle.write_ephemeris.proofs.write_each.Given as goal

abbrev pub invariant-loop : goal.invariant-loop
invariant-loop l =
    Along (λ k. times l.count (ephemeris (from_bool l.accel)) (k 0)) (left (from_bool l.accel) l.count)
    l.from.body.now l.from.at l.from.place l.initial.out l.at l.place 0 l.counter l.out
