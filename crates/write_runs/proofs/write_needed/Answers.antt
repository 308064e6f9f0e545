-- `write_needed` meets its contract: the bits are asked for as a whole, then the run.
-- Assumes nothing.
use Rattle.format.proofs.Passed.{carried}
use Rattle.write_runs.proofs.WentLaws.{need_had, need_lacked, starts}
use Rattle.write_runs.proofs.write_needed.Goals as goal

pub returns-in_err-enough-clause-ran : goal.returns-in_err-enough-clause-ran
returns-in_err-enough-clause-ran c =
    rw (carried c.from_residual.ensures) (λ e nms k. record
    { to = need_lacked _ e _ _ _ _ c.enough.ensures c.in_err-enough.was c.args.from.placed.within })

pub returns-clause-ran : goal.returns-clause-ran
returns-clause-ran c =
    λ e nms k. starts (need_had _ e _ _ _ _ c.enough.ensures c.in_ok-enough.was c.args.from.placed.within)
    (c.write_run.ensures.ran e nms k)
