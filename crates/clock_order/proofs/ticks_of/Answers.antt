-- The ticks, as they are defined.
-- Assumes nothing.
use Rattle.format.specs.Added.{ticks}
use borrow.Author.Rules.{rules}
use Rattle.clock_order.proofs.ticks_of.Goals as goal

pub returns : goal.returns
unfolding ticks
returns c = search rules
