-- What comes of three archives; that it does is shown in proofs/SamplesHold, by computation.
-- Assumes nothing: these are definitions.
use Rattle.std.specs.Prelude.{◌≡◌, List, [], ◌∷◌, ◌++◌, ℕ}
use Rattle.format.specs.declared.Edition.TheVariants.{First, Second}
use Rattle.ledger_text.specs.Text.{ascii}
use Rattle.ledger_convert.specs.Archive.{archive_output, archive_report}

-- no satellites in an edition
abbrev none_in : ℕ → List ℕ
none_in version = 0 ∷ 4 ∷ version ∷ 0 ∷ 0 ∷ 0 ∷ []

-- nothing; two ledgers; a ledger, one of a version that is none, and one that is cut off
abbrev pub ArchivesHold : Type 0
ArchivesHold =
    (archive_output First [] ≡ []) × (archive_report First [] ≡ []) ×
    (archive_output Second (none_in 1 ++ none_in 2) ≡ none_in 2 ++ none_in 2) ×
    (archive_report Second (none_in 1 ++ none_in 2) ≡ []) ×
    (archive_output First (none_in 2 ++ none_in 3 ++ (0 ∷ [])) ≡ none_in 1) ×
    (archive_report First (none_in 2 ++ none_in 3 ++ (0 ∷ [])) ≡ ascii "6 R 24 2 0\n12 R 23 0 0\n")
