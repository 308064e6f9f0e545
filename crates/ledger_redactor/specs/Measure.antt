-- What the measure of a ledger's copy without covariance is.
-- Assumes nothing: this is a definition.
use Rattle.std.specs.Prelude.{ℕ, List, Result}
use Rattle.format.specs.declared.Output.{Output}
use Rattle.format.specs.declared.Refusal.{Refusal}
use Rattle.format.specs.Whole.{id_of}
use Rattle.format.specs.Redact.{redacted}
use Rattle.ledger_reader.specs.Measured.{measured}

-- the table id and the length of the copy, or the refusal
unfoldable pub redact_measure : List ℕ → Result Output Refusal
redact_measure l = measured (id_of l) (redacted l)
