-- `copy_bytes`: an element more a turn.
-- Assumes nothing.
use mathlib.Core.Path.{sym}
use native.Mathlib.Omega.{arith}
use Rattle.runs.proofs.Stores.{stored_short}
use Rattle.runs.proofs.Copies.{copy_none, copy_next, copy_all}
use Rattle.runs.proofs.copy_bytes.Goals as goal

pub loop-i-init : goal.loop-i-init
loop-i-init c = copy_none _ _

pub loop-i-preserved : goal.loop-i-preserved
loop-i-preserved c = copy_next c.loop-i.invariant (omega arith) (omega arith)

pub returns-after-loop-i : goal.returns-after-loop-i
returns-after-loop-i c = copy_all c.loop-i.invariant (omega arith) (omega arith)

pub returns-else-n-out : goal.returns-else-n-out
returns-else-n-out c = sym (stored_short _ 0 _ (omega arith))
