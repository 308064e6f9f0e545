-- `read_each` goes through an entry a turn.
-- Assumes nothing.
use borrow.Author.Rules.{rules}
use Rattle.std.specs.Int.{from_bool}
use Rattle.format.specs.Syntax.{end}
use Rattle.format.proofs.DigitLaws.{below_of}
use Rattle.read_runs.specs.Came.{some_way}
use Rattle.read_runs.proofs.Moved.{came_whole}
use Rattle.read_ephemeris.proofs.Each.{fine_ephemeris, begin, turn, stop, ended}
use Rattle.read_ephemeris.proofs.read_each.Goals as goal

pub loop-init : goal.loop-init
loop-init c = begin c.args.count c.args.from c.requires.at_value

pub returns-in_err-step : goal.returns-in_err-step
returns-in_err-step c = stop c.loop.invariant c.loop-test.true (search rules) c.in_err-step.ensures

pub loop-preserved : goal.loop-preserved
loop-preserved c =
    let step = c.loop.step in
    let bytes = below_of 256 step.ledger.now step.bytes in
    let w = (c.in_ok-step.ensures some_way end).to.came in
    turn c.loop.invariant c.loop-test.true c.in_ok-step.ensures
    (came_whole (fine_ephemeris (from_bool c.args.accel)) bytes c.loop.invariant.aligned w)

pub returns : goal.returns
returns c = λ way s. record { to = ended c.loop.invariant c.loop-test.false way s }
