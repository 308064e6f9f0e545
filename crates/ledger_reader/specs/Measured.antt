-- What a ledger's measure is.
-- Assumes nothing: these are definitions.
use Rattle.std.specs.Prelude.{ℕ, ◌≡◌, List, length, Result, Ok, Err}
use Rattle.format.specs.Refusals.{refuse}
use Rattle.format.specs.Syntax.{Parse, got, refused}
use Rattle.format.specs.Whole.{id_of, edition_of}
use Rattle.format.specs.Calls.{done, restored}
use Rattle.format.specs.declared.Refusal.{Refusal}
use Rattle.format.specs.declared.Output.{Output}
use Rattle.ledger_reader.specs.declared.Measured.{Measured}

abbrev pub measured : ℕ → Parse (List ℕ) → Result Output Refusal
measured id (got xs rest) = done id (length xs)
measured id (refused fault needed had) = Err (refuse fault needed had)

-- the table id that a ledger names and the length of its body, plain or kept, or the ledger's refusal
unfoldable pub measure_of : List ℕ → Result Output Refusal
measure_of l = measured (id_of l) (restored l)

-- the measure with the ledger's edition beside it
abbrev pub MeasuresTo : List ℕ → Result Measured Refusal → Type 0
MeasuresTo l (Ok m) = (m.edition ≡ edition_of l) × (Ok m.output ≡ measure_of l)
MeasuresTo l (Err f) = Err f ≡ measure_of l

pub record Measures (l : List ℕ) (r : Result Measured Refusal) : Type 0 where
  pub to : MeasuresTo l r
