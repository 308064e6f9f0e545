-- What the program prints for three inputs, by computation.
-- Assumes nothing.
use Rattle.std.specs.Prelude.{◌≡◌, refl, [], ◌∷◌}
use Rattle.format.specs.Digits.{digits, value, bits_of}
use Rattle.format.specs.Tables.{position}
use Rattle.format.specs.Body.{read_body}
use Rattle.format.specs.Ledger.{ledger}
use Rattle.format.specs.Whole.{walk, read_as, body_read_as, ledgers, content_of, ledger_of}
use Rattle.format.specs.Calls.{filed}
use Rattle.ledger_text.specs.Text.{ascii, hex_digit, hex_text, hex_line, digits_before, decimal, spaced, refusal_line}
use Rattle.sat_ledger.specs.Output.{shown, output_of}

-- nothing; P1, which is id 0 and an empty body; P2, which is refused by 4
pub outputs_hold :
    (output_of [] ≡ ascii "no input\n") ×
    (output_of (0 ∷ []) ≡ ascii "000401000000\n") ×
    (output_of (0 ∷ 0 ∷ 0 ∷ 7 ∷ 1 ∷ 1 ∷ 0x20 ∷ []) ≡ ascii "R 4 344 16\n")
unfolding output_of shown filed body_read_as read_as walk read_body bits_of digits value position ledger_of content_of ledger ledgers hex_line hex_text hex_digit refusal_line spaced decimal digits_before
outputs_hold = (refl, refl, refl)
