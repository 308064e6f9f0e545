-- `read_each` goes through an entry a turn, and lends it the buffer from where the last one ended.
-- Assumes nothing.
use Rattle.std.specs.Int.{from_bool}
use Rattle.format.specs.Tables.{ephemeris}
use Rattle.read_ephemeris.proofs.Each.{Each}
use Rattle.read_ephemeris.proofs.read_each.Given as goal

abbrev pub invariant-loop : goal.invariant-loop
invariant-loop l = Each (ephemeris (from_bool l.accel)) l.count l.from l.initial.out l.step l.counter l.out
