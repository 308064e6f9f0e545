-- `lay` stores where there is room.
-- Assumes nothing.
use mathlib.Core.Path.{sym, ◌∙◌}
use native.Mathlib.Omega.{arith}
use Rattle.format.specs.Digits.{bits_of}
use Rattle.format.proofs.DigitLaws.{length_digits, length_bits}
use Rattle.runs.proofs.Stores.{stored_fits, stored_short}
use Rattle.read_runs.proofs.lay.Goals as goal

pub returns-then-at-width : goal.returns-then-at-width
returns-then-at-width c =
    let a = c.args in
    c.write_u.ensures ∙ sym (stored_fits (bits_of a.out.now) a.at _ (omega (arith, length_bits a.out.now, length_digits 2 a.width a.v)))

pub returns-else-at-width : goal.returns-else-at-width
returns-else-at-width c =
    let a = c.args in
    sym (stored_short (bits_of a.out.now) a.at _ (omega (arith, length_bits a.out.now, length_digits 2 a.width a.v)))
