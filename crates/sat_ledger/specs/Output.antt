-- What the program prints for what it reads, as a list of ASCII codes.
-- Assumes nothing: these are definitions.
use Rattle.std.specs.Prelude.{ℕ, List, [], ◌∷◌}
use Rattle.format.specs.Refusals.{fault_number}
use Rattle.format.specs.Syntax.{Parse, got, refused}
use Rattle.format.specs.declared.Edition.TheVariants.{First}
use Rattle.format.specs.Calls.{filed}
use Rattle.ledger_text.specs.Text.{ascii, hex_line, refusal_line}

-- a ledger, or a refusal
unfoldable pub shown : Parse (List ℕ) → List ℕ
shown (got ledger rest) = hex_line ledger
shown (refused fault needed had) = refusal_line (fault_number fault) needed had

-- the first byte is the table id, the others are the body; the ledger is that of edition 1
unfoldable pub output_of : List ℕ → List ℕ
output_of [] = ascii "no input\n"
output_of (id ∷ body) = shown (filed First id body)
