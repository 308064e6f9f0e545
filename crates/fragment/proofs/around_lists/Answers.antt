-- `around_lists` meets its contract: by the case of its lists.
-- Assumes nothing.
use Rattle.format.proofs.Passed.{carried}
use Rattle.fragment.proofs.Steps.{around_got, around_cut}
use Rattle.fragment.proofs.around_lists.Goals as goal

pub returns-in_err-lists : goal.returns-in_err-lists
returns-in_err-lists c = around_cut _ _ _ c.read_lists.ensures c.in_err-lists.was (carried c.from_residual.ensures)

pub returns : goal.returns
returns c = around_got _ _ _ c.read_lists.ensures c.in_ok-lists.was
