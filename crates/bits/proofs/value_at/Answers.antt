-- `value_at` meets its contract: a word is cut, or the bits are taken byte by byte.
-- Assumes nothing.
use native.Mathlib.Omega.{arith}
use Rattle.bits.proofs.Cuts.{cut_at}
use Rattle.bits.proofs.value_at.Goals as goal

pub returns-then-first-s : goal.returns-then-first-s
returns-then-first-s c =
    let a = c.args in
    let within = c.if-off-bits-le64.true in
    let there = c.if-first-s.true in
    cut_at a.s.now a.at a.bits c.bytes_at.result (omega arith) within there c.bytes_at.ensures.bits
