-- An archive, ledgers one after the other, and what comes of it: the converted ledgers, and a report on each other one.
-- Assumes nothing: these are definitions.
use Rattle.std.specs.Prelude.{ℕ, zero, suc, ◌+◌, Bool, true, false, cond, eqb, List, [], ◌∷◌, ◌++◌, length, take, drop}
use Rattle.std.specs.Prelude.{Option, Some, None}
use Prim.Native.Char.{code}
use Rattle.format.specs.Digits.{value}
use Rattle.format.specs.Refusals.{fault_number}
use Rattle.format.specs.Syntax.{Parse, got, refused}
use Rattle.format.specs.declared.Edition.{Edition}
use Rattle.format.specs.declared.Edition.TheVariants.{First, Second}
use Rattle.format.specs.Convert.{converted}
use Rattle.ledger_text.specs.Text.{refusal_line, placed}

-- the edition that a word names, `1` or `2`
unfoldable pub edition_named : List ℕ → Option Edition
edition_named [] = None
edition_named (c ∷ []) = cond (eqb c (code "1")) (Some First) (cond (eqb c (code "2")) (Some Second) None)
edition_named (c ∷ d ∷ more) = None

-- ---- how an archive is cut

-- how many bytes the ledger in front takes: its first two bytes count those that follow them
unfoldable pub size_in_front : List ℕ → ℕ
size_in_front xs = 2 + value 256 (take 2 xs)

-- the ledgers of an archive, as many as the number at most; the last one takes what is left, be it too short
unfoldable pub cut : ℕ → List ℕ → List (List ℕ)
cut zero xs = []
cut (suc n) [] = []
cut (suc n) (x ∷ xs) =
    let size : ℕ = size_in_front (x ∷ xs) in
    take size (x ∷ xs) ∷ cut n (drop size (x ∷ xs))

-- each takes a byte at least
unfoldable pub ledgers_in : List ℕ → List (List ℕ)
ledgers_in xs = cut (length xs) xs

-- ---- what comes of a ledger

-- the converted ledger; nothing where it is refused
unfoldable pub written : Parse (List ℕ) → List ℕ
written (got xs rest) = xs
written (refused fault needed had) = []

-- a line with the place and the refusal; nothing where it is converted
unfoldable pub reported : ℕ → Parse (List ℕ) → List ℕ
reported place (got xs rest) = []
reported place (refused fault needed had) = placed place (refusal_line (fault_number fault) needed had)

-- ---- what comes of an archive, by its ledgers: on standard output, and on standard error

unfoldable pub outputs : Edition → List (List ℕ) → List ℕ
outputs ed [] = []
outputs ed (l ∷ ls) = written (converted ed l) ++ outputs ed ls

-- the place of a ledger is the number of bytes in front of it; place: that of the first one here
unfoldable pub reports : Edition → ℕ → List (List ℕ) → List ℕ
reports ed place [] = []
reports ed place (l ∷ ls) = reported place (converted ed l) ++ reports ed (place + length l) ls

unfoldable pub archive_output : Edition → List ℕ → List ℕ
archive_output ed xs = outputs ed (ledgers_in xs)

unfoldable pub archive_report : Edition → List ℕ → List ℕ
archive_report ed xs = reports ed 0 (ledgers_in xs)

-- whether there is nothing to report
unfoldable pub is_empty : List ℕ → Bool
is_empty [] = true
is_empty (x ∷ xs) = false
