-- `append_plan` lays the parts of a plan one behind the other.
-- Assumes nothing.
use native.Mathlib.Omega.{arith}
use Rattle.runs.proofs.Appends.{also}
use Rattle.ledger_converter.proofs.append_plan.Goals as goal

pub append-end-requires : goal.append-end-requires
append-end-requires c = omega (arith, c.requires.at_bound, c.requires.few, c.append-behind.ensures.size, c.append_pair-start.ensures.two)

pub append_pair-filler-requires : goal.append_pair-filler-requires
append_pair-filler-requires c =
    omega (arith, c.requires.at_bound, c.requires.few, c.append-behind.ensures.size, c.append_pair-start.ensures.two, c.append-end.ensures.size)

pub append-requires-in-Second : goal.append-requires-in-Second
append-requires-in-Second c =
    omega (
      arith,
      c.requires.at_bound,
      c.requires.few,
      c.append-behind.ensures.size,
      c.append_pair-start.ensures.two,
      c.append-end.ensures.size,
      c.append_pair-filler.ensures.two,
    )

pub returns-in-First : goal.returns-in-First
returns-in-First c = rw c.in-First.is (also c.append-behind.ensures c.append.ensures)

pub returns-in-Second : goal.returns-in-Second
returns-in-Second c =
    rw c.in-Second.is
    (also c.append-behind.ensures
    (also c.append_pair-start.ensures.appended (also c.append-end.ensures (also c.append_pair-filler.ensures.appended c.append-in-Second.ensures))))
