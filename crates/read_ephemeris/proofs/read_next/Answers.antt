-- `read_next` lends an entry the buffer from where the last one ended.
-- Assumes nothing.
use native.Mathlib.Omega.{arith}
use borrow.Author.Rules.{rules}
use Rattle.format.specs.Syntax.{end}
use Rattle.read_runs.specs.Came.{some_way}
use Rattle.read_runs.proofs.CameLaws.{stops}
use Rattle.read_runs.proofs.Lent.{lent}
use Rattle.read_ephemeris.proofs.read_next.Goals as goal

pub returns-in_err-entry : goal.returns-in_err-entry
returns-in_err-entry c = λ way s. stops (search rules) (c.in_err-entry.ensures way s)

pub invariant_of-result-clause-placed : goal.invariant_of-result-clause-placed
invariant_of-result-clause-placed c =
    let p = c.in_ok-entry.entry.placed in
    let w = (c.in_ok-entry.ensures some_way end).to.came in
    record { short = p.short; within = p.within; behind = omega (arith, c.args.from.placed.behind, w.slack) }

pub returns : goal.returns
returns c =
    let a = c.args in
    λ way s. let w = (c.in_ok-entry.ensures way s).to in record {
      to = record { same = w.same; came = lent a.out.now c.byte_of-start.result a.from.at c.byte_of-start.ensures c.requires.at_value w.came };
    }
