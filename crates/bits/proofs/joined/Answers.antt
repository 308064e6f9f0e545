-- `joined` meets its contract, by the law of `joins`.
-- Assumes nothing.
use native.Mathlib.Omega.{arith}
use Rattle.bits.proofs.Spans.{Joined, joins}
use Rattle.bits.proofs.joined.Goals as goal
use Rattle.bits.proofs.joined.Goals.{Start}

-- the law at the function's arguments
law : (c : Start) → Joined c.args.head c.args.width c.args.v c.args.low c.args.tail
law c = joins _ _ _ _ _ c.requires.0 c.requires.1 (omega arith) (omega arith)

pub overflow_add-front : goal.overflow_add-front
overflow_add-front c = record { fits = (law (goal.at.overflow_add-front c).Start).front_fits }

pub overflow_add-result : goal.overflow_add-result
overflow_add-result c = record { fits = (law (goal.at.overflow_add-result c).Start).fits }

pub returns : goal.returns
returns c = (law (goal.at.returns c).Start).same
