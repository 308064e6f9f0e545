-- `read_full` puts what a read gave behind what earlier ones gave.
-- Assumes nothing.
use Rattle.std.proofs.Common.{rules, ◌-◌, length}
use Rattle.ledger_convert.proofs.Reading.{filled_more, filled_kept}
use Rattle.ledger_convert.proofs.read_full.Goals.{in-Ok, in-Err+else-ne}
use Rattle.ledger_convert.proofs.read_full.Goals as goal

pub loop-preserved : goal.loop-preserved
loop-preserved g c =
    let room = length c.loop.buffer - c.loop.done in
    let within = c.loop.invariant.1 in
    elim c.match-read.branch [
      | in-Ok w ↦
          let more = filled_more _ _ _ c.loop.buffer c.read.new.buf c.loop.done room w.in-Ok.n within
          w.in-Ok.ensures.bound.0 c.loop.invariant.2 w.in-Ok.ensures.bytes.0 in
          rw w.done-is (search rules, search rules, more)
      | in-Err+else-ne w ↦
          let kept = filled_kept _ _ _ c.loop.buffer c.read.new.buf c.loop.done room within c.loop.invariant.2
          w.in-Err.ensures.bytes in
          rw w.done-is (search rules, search rules, kept)
    ]
