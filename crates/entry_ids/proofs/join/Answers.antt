-- By the library's search: one of those that are there, or put behind them.
-- Assumes nothing.
use Rattle.entry_ids.proofs.Lists.{joined_new, joined_old}
use Rattle.entry_ids.proofs.join.Goals as goal

pub returns-then-not-contains : goal.returns-then-not-contains
returns-then-not-contains c =
    joined_new c.args.id c.contains.ensures.value c.deref.ensures.0 c.if-not-contains.true c.push.ensures.items

pub returns-else-not-contains : goal.returns-else-not-contains
returns-else-not-contains c =
    joined_old c.args.id c.contains.ensures.value c.deref.ensures.0 c.if-not-contains.false
