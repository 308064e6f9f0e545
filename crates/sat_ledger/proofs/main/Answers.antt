-- `main` writes as many bytes as the line has.
-- Assumes nothing.
use Rattle.std.proofs.Common.{◌≡◌, ◌≤◌, ℕ, List, length, sym}
use lib.Seq.{length-take-le}
use Rattle.format.specs.Digits.{splice}
use Rattle.ledger_text.proofs.Lines.{splice_long}
use Rattle.sat_ledger.proofs.main.Goals as goal

-- a line that is stored is within the text
within : (l xs : List ℕ) {out : List ℕ} {n : ℕ} → (n ≡ length xs) × (out ≡ splice l 0 xs) → n ≤ length out
within l xs o = rw (o.0, o.1) (splice_long l xs)

pub slice_bounds-text-end : goal.slice_bounds-text-end
slice_bounds-text-end c = within _ _ c.output_line-size.ensures

pub slice_bounds-write_all-end : goal.slice_bounds-write_all-end
slice_bounds-write_all-end c = sym (length-take-le _ _ (within _ _ c.output_line-size.ensures))
