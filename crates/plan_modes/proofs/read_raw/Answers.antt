-- `read_raw` meets its contract: an end past the data, one that was passed, and one within.
-- Assumes nothing.
use native.Mathlib.Omega.{arith}
use Rattle.plan_modes.proofs.Bitmap.{raw_none, raw_there}
use Rattle.plan_modes.proofs.read_raw.Goals as goal

pub returns-then-from-end : goal.returns-then-from-end
returns-then-from-end c =
    let a = c.args in raw_none a.from.body.now a.end a.from.at (omega arith) c.then-from-end.either

pub returns : goal.returns
returns c = let a = c.args in raw_there a.from.body.now a.end a.from.at (omega arith) (omega arith) (omega arith)
