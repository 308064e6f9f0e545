-- `convert_plans` has laid the plans in front of i.
-- Assumes nothing.
use Rattle.ledger_converter.proofs.Walking.{Walking}
use Rattle.ledger_converter.proofs.convert_plans.Given as goal

abbrev pub invariant-loop-i : goal.invariant-loop-i
invariant-loop-i l = Walking l.from l.edition l.ledger l.initial.out l.initial.at l.count l.i l.place l.at l.out
