-- `size_of` meets its contract: by the kind of the mark, and a field's bits.
-- Assumes nothing.
use native.Mathlib.Omega.{arith}
use Rattle.std.proofs.lemmas.Bool.Decides.{nat_tests}
use Rattle.runs.proofs.MarkLaws.{size_signed, size_ext, size_unsigned}
use Rattle.runs.proofs.size_of.Goals as goal

pub returns-in-0-to-8 : goal.returns-in-0-to-8
returns-in-0-to-8 c = rw (size_unsigned c.args.mark (omega arith)) (grind (arith, nat_tests))

pub returns-in-9-to-16 : goal.returns-in-9-to-16
returns-in-9-to-16 c = rw (size_unsigned c.args.mark (omega arith)) (grind (arith, nat_tests))

pub returns-in-17-to-32 : goal.returns-in-17-to-32
returns-in-17-to-32 c = rw (size_unsigned c.args.mark (omega arith)) (grind (arith, nat_tests))

pub returns-in-33-to-127 : goal.returns-in-33-to-127
returns-in-33-to-127 c = rw (size_unsigned c.args.mark (omega arith)) (grind (arith, nat_tests))

pub returns-in-137 : goal.returns-in-137
returns-in-137 c = rw (size_ext c.args.mark (omega arith))

pub returns-in_default : goal.returns-in_default
returns-in_default c = rw (size_signed c.args.mark (omega arith) (λ e. omega arith))
