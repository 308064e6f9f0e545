-- `push_digits` adds a number's digits, for which there is room.
-- Assumes nothing.
use native.Mathlib.Omega.{arith}
use Rattle.ledger_text.proofs.Lines.{digits_added}
use Rattle.ledger_text.proofs.push_digits.Goals as goal

pub returns-clause-text : goal.returns-clause-text
returns-clause-text c =
    let added = c.try_extend_from_slice.ensures in
    let room = added.variant.1 (omega arith) in
    digits_added c.try_extend_from_slice.result _ _ _ _ c.ranges.n.fits (cc) room added.ok
