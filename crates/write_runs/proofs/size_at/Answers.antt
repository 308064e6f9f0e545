-- `size_at` meets its contract: below 128 no number matters.
-- Assumes nothing.
use mathlib.Core.Path.{sym}
use native.Mathlib.Omega.{arith}
use Rattle.runs.proofs.MarkLaws.{not_ext, mark_facts, plain_size}
use Rattle.write_runs.proofs.size_at.Goals as goal

pub returns-then-plain : goal.returns-then-plain
returns-then-plain c = rw c.size_of.ensures (sym (plain_size _ _ (not_ext c.if-plain.true)))

pub value_at-requires : goal.value_at-requires
value_at-requires c =
    let pre = c.requires in
    let w = c.width_of.ensures in
    record { room = record { short = omega (arith, pre.room.short); fits = omega (arith, w, pre.room.fits) }; bits_bound = omega (arith, w, (mark_facts c.args.mark pre.valid).most) }
