-- `convert_all` has told of the ledgers that it took, which are whole.
-- Assumes nothing.
use Rattle.std.proofs.Common.{◌≡◌, ◌≤◌, ◌*◌, ℕ, List, length}
use Rattle.std.specs.Io.KnownBytes.{Consumes}
use Rattle.ledger_convert.specs.Archive.{archive_report, is_empty}
use Rattle.ledger_convert.specs.Streams.{Told}
use Rattle.ledger_convert.proofs.Cuts.{Closed}
use Rattle.ledger_convert.proofs.convert_all.Given as goal

abbrev pub invariant-loop : goal.invariant-loop
invariant-loop g l =
    (xs : List ℕ) × Closed xs × Consumes (g.R.Read.remaining l.initial.input) (g.R.Read.remaining l.input) xs
    × (length xs ≡ l.place) × (l.place ≤ 65537 * l.counter)
    × Told l.fn.edition xs (g.O.Write.contents l.initial.output) (g.O.Write.contents l.output)
    (g.E.Write.contents l.initial.report) (g.E.Write.contents l.report)
    × (l.all ≡ is_empty (archive_report l.fn.edition xs))
