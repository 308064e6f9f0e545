-- `redact_satellites` has laid the satellites in front of i.
-- Assumes nothing.
use Rattle.ledger_redactor.proofs.Walking.{Walking}
use Rattle.ledger_redactor.proofs.redact_satellites.Given as goal

abbrev pub invariant-loop : goal.invariant-loop
invariant-loop l = Walking l.ledger l.initial.out l.initial.at l.counter l.place l.at l.out
