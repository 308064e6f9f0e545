-- `read_flagged`: a proof with the shape of the code.
-- Assumes nothing.
use borrow.Author.Rules.{rules}
use Rattle.std.specs.Int.{from_bool}
use Rattle.format.specs.Syntax.{Syntax, end}
use Rattle.format.specs.Tables.{ephemerides}
use Rattle.format.proofs.DigitLaws.{below_of}
use Rattle.read_runs.specs.Came.{some_way}
use Rattle.read_runs.proofs.CameLaws.{stops, starts, then, when_yes, when_no}
use Rattle.read_runs.proofs.Moved.{came_whole}
use Rattle.runs.specs.declared.Flags.{Flags}
use Rattle.read_ephemeris.proofs.Each.{fine_metadata}
use Rattle.read_ephemeris.proofs.read_flagged.Goals as goal

-- what follows the metadata
abbrev rest : Flags → Syntax
rest f = ephemerides (from_bool f.acceleration) (from_bool f.covariance)

pub returns-in_err-about : goal.returns-in_err-about
returns-in_err-about c =
    λ way. starts (when_yes _ _ _ _ _ _ c.if-flags.true) (stops (search rules) (c.in_err-about.ensures way (rest c.args.flags)))

pub read_ephemerides-requires : goal.read_ephemerides-requires
read_ephemerides-requires c =
    let a = c.args in
    record {
      at_value = came_whole (fine_metadata (from_bool a.flags.start) (from_bool a.flags.stop)) (below_of 256 a.from.ledger.now a.from.bytes) c.requires.at_value
          (c.in_ok-about.ensures some_way end).to.came;
    }

pub returns-then-flags : goal.returns-then-flags
returns-then-flags c =
    λ way. starts (when_yes _ _ _ _ _ _ c.if-flags.true)
    (then (c.in_ok-about.ensures way (rest c.args.flags)).to (c.read_ephemerides.ensures way))

pub returns : goal.returns
returns c = λ way. starts (when_no _ _ _ _ _ _ c.if-flags.false) (c.read_ephemerides-2.ensures way)
