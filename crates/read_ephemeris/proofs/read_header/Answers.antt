-- `read_header`: one run.
-- Assumes nothing.
use Rattle.format.specs.Syntax.{end}
use Rattle.format.specs.Tables.{header}
use Rattle.runs.specs.Lines.{run, sign_of, width_of}
use Rattle.read_runs.proofs.CameLaws.{starts, need_any}
use Rattle.runs.proofs.Names as names
use Rattle.read_ephemeris.proofs.read_header.Goals as goal

pub returns : goal.returns
unfolding header run sign_of width_of
returns c = λ way. starts (need_any _ _ _ _ _ _) (starts (need_any _ _ _ _ _ _) (c.read_run.ensures.laid way names.header (λ _. end)))
