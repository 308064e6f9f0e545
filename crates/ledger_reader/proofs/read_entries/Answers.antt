-- `read_entries` goes through an entry a turn, and those before i are laid.
-- Assumes nothing.
use borrow.Author.Rules.{rules}
use Rattle.format.proofs.DigitLaws.{below_of}
use Rattle.format.proofs.NamedLaws.{fine_entry}
use Rattle.ledger_reader.proofs.Entries.{holds_no, took_whole, begin, turn, stop, ended}
use Rattle.ledger_reader.proofs.read_entries.Goals as goal

pub loop-i-init : goal.loop-i-init
loop-i-init c = begin c.args.count c.args.from c.requires.ahead c.requires.at_value

pub returns-in_err-step : goal.returns-in_err-step
returns-in_err-step c = holds_no (search rules) (stop c.loop-i.invariant c.loop-i-test.true c.in_err-step.ensures)

pub loop-i-preserved : goal.loop-i-preserved
loop-i-preserved c =
    let step = c.loop-i.step in
    let y = c.in_ok-step.ensures in
    let bytes = below_of 256 step.ledger.now step.bytes in
    turn c.loop-i.invariant c.loop-i-test.true y
    (took_whole (fine_entry c.args.table) bytes c.loop-i.invariant.aligned y.to.took)

pub returns : goal.returns
returns c = record { to = ended c.loop-i.invariant c.loop-i-test.false }
