-- `write_filler`: bytes behind their count in the second edition, and none in the first.
-- Assumes nothing.
use Rattle.write_plans.proofs.SlotLaws.{none_appended}
use Rattle.write_plans.proofs.write_filler.Goals as goal

pub returns-in-First : goal.returns-in-First
returns-in-First c = rw c.in-First.is (none_appended _ _)
