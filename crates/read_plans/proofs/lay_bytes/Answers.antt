-- `lay_bytes`: at a byte place the bytes are copied; else a byte more a turn.
-- Assumes nothing.
use native.Mathlib.Omega.{arith}
use borrow.Author.Rules.{rules}
use Rattle.read_plans.proofs.Laying.{begin, more, no_room, laid, copied}
use Rattle.read_plans.proofs.lay_bytes.Goals as goal

pub returns-then-out-at : goal.returns-then-out-at
returns-then-out-at c =
    let a = c.args in
    no_room a.bytes.now a.out.now a.at (omega arith)

pub returns-then-at-eq0 : goal.returns-then-at-eq0
returns-then-at-eq0 c =
    let a = c.args in
    copied a.bytes.now a.out.now _ a.at c.if-at-eq0.true c.copy_bytes.ensures
    (omega arith)

pub loop-i-init : goal.loop-i-init
loop-i-init c = begin

pub loop-i-preserved : goal.loop-i-preserved
loop-i-preserved c = more c.loop-i.invariant (omega arith) c.lay.ensures (search rules)

pub returns : goal.returns
returns c = laid c.loop-i.invariant (omega arith) (omega arith)
