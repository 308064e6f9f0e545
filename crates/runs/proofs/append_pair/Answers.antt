-- `append_pair` stores its two bytes where they have room.
-- Assumes nothing.
use Rattle.runs.proofs.Appends.{pair_fits, pair_short}
use Rattle.runs.proofs.append_pair.Goals as goal

pub returns-then-behind-out-clause-appended : goal.returns-then-behind-out-clause-appended
returns-then-behind-out-clause-appended c =
    pair_fits c.args.v c.args.at c.args.out.now c.put_be.new.out c.if-behind-out.true c.put_be.ensures

pub returns-else-behind-out-clause-appended : goal.returns-else-behind-out-clause-appended
returns-else-behind-out-clause-appended c = pair_short c.args.v c.args.at c.args.out.now c.if-behind-out.false
