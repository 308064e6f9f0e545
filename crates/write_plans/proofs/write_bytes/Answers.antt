-- `write_bytes`: the count and the bytes, one store behind the other.
-- Assumes nothing.
use Rattle.write_plans.proofs.SlotLaws.{counted_done}
use Rattle.write_plans.proofs.write_bytes.Goals as goal

pub returns : goal.returns
returns c = counted_done c.args.from.body.now c.args.from.at c.args.m c.requires.0 c.requires.1 c.put.ensures c.write_bits.ensures
