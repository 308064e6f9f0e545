-- `put_be`: no bytes stored leave all as they were.
-- Assumes nothing.
use Rattle.bits.proofs.Words.{put_none}
use Rattle.bits.proofs.put_be.Goals as goal

pub returns-in-0 : goal.returns-in-0
returns-in-0 c = rw c.in-0.is (put_none _ _ c.args.v)
