-- `append` copies its bytes to the part of the buffer behind the place.
-- Assumes nothing.
use native.Mathlib.Omega.{arith}
use Rattle.runs.proofs.Appends.{append_part}
use Rattle.runs.proofs.append.Goals as goal

pub returns : goal.returns
returns c =
    let out = c.args.out.now in
    append_part out c.args.bytes.now c.copy_bytes.new.out c.args.at c.min-start.result
    (omega (arith, c.min-start.ensures)) (λ h. omega (arith, c.min-start.ensures)) c.copy_bytes.ensures
