-- `first_bits` meets its contract.
-- Assumes nothing.
use mathlib.Core.Path.{refl}
use native.Mathlib.Omega.{arith}
use Rattle.bits.proofs.Spans.{at_front}
use Rattle.bits.proofs.first_bits.Goals as goal

pub returns : goal.returns
returns c = at_front _ _ _ _ (omega arith) (omega arith) refl (omega (arith, c.shared_slice_known-1.given c.args.q))
