-- `write_header` meets its contract: one run of fields.
-- Assumes nothing.
use Rattle.format.specs.Syntax.{end}
use Rattle.format.specs.Tables.{header}
use Rattle.format.proofs.Passed.{carried}
use Rattle.runs.specs.Lines.{run, sign_of, width_of}
use Rattle.runs.proofs.Names as names
use Rattle.write_runs.proofs.WentLaws.{starts, need_had, need_lacked}
use Rattle.write_ephemeris.proofs.write_header.Goals as goal

pub returns-in_err-enough : goal.returns-in_err-enough
unfolding header
returns-in_err-enough c =
    rw (carried c.from_residual.ensures) (λ e. record
    { to = need_lacked _ e _ _ 1 _ c.enough.ensures c.in_err-enough.was c.args.from.placed.within })

pub returns : goal.returns
unfolding header run sign_of width_of
returns c =
    λ e. starts (need_had _ e _ _ 1 _ c.enough.ensures c.in_ok-enough.was c.args.from.placed.within)
    (c.write_needed.ensures.ran e names.header (λ _. end))
