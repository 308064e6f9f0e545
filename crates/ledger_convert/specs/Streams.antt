-- What a run does to its streams: the bytes that it takes of its input, and those that it writes.
-- Where a stream's bytes are not known, as those of a file, nothing is said of them.
-- Assumes nothing: these are definitions.
use Rattle.std.specs.Prelude.{ℕ, ◌≡◌, ◌≤◌, ◌<◌, Bool, List, ◌++◌, length, take, Option, Result, Ok, Err, ⊤}
use Rattle.std.specs.Io.KnownBytes.{Consumes, Appends, IsAtEnd}
use Rattle.format.specs.declared.Edition.{Edition}
use Rattle.format.specs.Convert.{converted}
use Rattle.ledger_convert.specs.Archive.{size_in_front, written, reported, archive_output, archive_report, is_empty}
use Rattle.ledger_convert.specs.declared.Stop.{Stop}
use Rattle.ledger_convert.specs.declared.Stop.TheVariants.{Input, Output, TooMany}

-- the first n bytes were read, and the whole buffer is filled unless the input ended; at an error some bytes are gone
abbrev pub Filled : {E : Type 0} → Option (List ℕ) → Option (List ℕ) → List ℕ → Result ℕ E → Type 0
Filled old new buffer (Ok n) =
    (n ≤ length buffer) × Consumes old new (take n buffer) × (n < length buffer → IsAtEnd new)
Filled old new buffer (Err e) = (more : List ℕ) × Consumes old new more

-- the first n bytes are the next ledger, fewer than it takes only where the input ended
abbrev pub Fetched : {E : Type 0} → Option (List ℕ) → Option (List ℕ) → List ℕ → Result ℕ E → Type 0
Fetched old new buffer (Ok n) =
    (n ≤ length buffer) × Consumes old new (take n buffer) × (n ≤ size_in_front (take n buffer))
    × (n < size_in_front (take n buffer) → IsAtEnd new)
Fetched old new buffer (Err e) = (more : List ℕ) × Consumes old new more

-- what comes of a ledger went to the streams: output, then report
abbrev pub Sent : {E : Type 0} → Edition → ℕ → List ℕ → Option (List ℕ) → Option (List ℕ) → Option (List ℕ)
    → Option (List ℕ) → Result Bool E → Type 0
Sent ed place l out out' report report' (Ok all) =
    Appends out out' (written (converted ed l)) × Appends report report' (reported place (converted ed l))
    × (all ≡ is_empty (reported place (converted ed l)))
Sent ed place l out out' report report' (Err e) = ⊤

-- what comes of the bytes xs of an archive went to the streams
pub record Told (ed : Edition) (xs : List ℕ) (out out' report report' : Option (List ℕ)) : Type 0 where
  pub on_output : Appends out out' (archive_output ed xs)
  pub on_report : Appends report report' (archive_report ed xs)

-- A whole run: all of the input was taken and told of, and the answer is whether there was nothing to report. Or a read
-- failed, and all in front of the ledger at that place was told of; likewise where there are too many ledgers.
abbrev pub Ran : Edition → Option (List ℕ) → Option (List ℕ) → Option (List ℕ) → Option (List ℕ) → Option (List ℕ)
    → Option (List ℕ) → Result Bool Stop → Type 0
Ran ed old new out out' report report' (Ok all) =
    (xs : List ℕ) × Consumes old new xs × IsAtEnd new × Told ed xs out out' report report'
    × (all ≡ is_empty (archive_report ed xs))
Ran ed old new out out' report report' (Err (Input place)) =
    (xs : List ℕ) × (more : List ℕ) × Consumes old new (xs ++ more) × (length xs ≡ place)
    × Told ed xs out out' report report'
Ran ed old new out out' report report' (Err (TooMany place)) =
    (xs : List ℕ) × Consumes old new xs × (length xs ≡ place) × Told ed xs out out' report report'
Ran ed old new out out' report report' (Err Output) = ⊤
