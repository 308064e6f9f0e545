-- `write_counted` meets its contract: the bits are asked for first, then the rounds.
-- Assumes nothing.
use Rattle.format.proofs.Passed.{carried}
use Rattle.write_runs.proofs.WentLaws.{need_had, need_lacked, starts}
use Rattle.write_runs.proofs.write_counted.Goals as goal

pub returns-in_err-enough : goal.returns-in_err-enough
returns-in_err-enough c =
    rw (carried c.from_residual.ensures) (record {
      ran = λ e nms s. record
          { to = need_lacked _ e _ _ _ _ c.enough.ensures c.in_err-enough.was c.args.from.placed.within };
    })

pub returns : goal.returns
returns c =
    record {
      ran = λ e nms s. starts (need_had _ e _ _ _ _ c.enough.ensures c.in_ok-enough.was c.args.from.placed.within)
          (c.write_rounds.ensures.ran e nms s);
    }
