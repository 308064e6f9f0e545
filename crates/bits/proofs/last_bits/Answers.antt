-- `last_bits` meets its contract.
-- Assumes nothing.
use mathlib.Core.Path.{refl}
use native.Mathlib.Omega.{arith}
use Rattle.std.proofs.lemmas.Nat.{one_shl}
use Rattle.bits.proofs.Spans.{at_back}
use Rattle.bits.proofs.last_bits.Goals as goal

pub returns : goal.returns
returns c = rw (one_shl c.args.n 64 (omega arith)) (at_back _ _ c.args.n _ (omega arith) (omega arith) refl)
