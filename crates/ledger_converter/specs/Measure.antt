-- What the measure of a conversion is.
-- Assumes nothing: this is a definition.
use Rattle.std.specs.Prelude.{ℕ, List, Result}
use Rattle.format.specs.declared.Edition.{Edition}
use Rattle.format.specs.declared.Output.{Output}
use Rattle.format.specs.declared.Refusal.{Refusal}
use Rattle.format.specs.Whole.{id_of}
use Rattle.format.specs.Convert.{converted}
use Rattle.ledger_reader.specs.Measured.{measured}

-- the table id and the length of a ledger in the edition that is wanted, or the refusal
unfoldable pub convert_measure : Edition → List ℕ → Result Output Refusal
convert_measure ed l = measured (id_of l) (converted ed l)
