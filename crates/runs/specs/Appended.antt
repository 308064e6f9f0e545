-- Bytes laid one behind the other, and a ledger's front and content.
-- Assumes nothing: these are definitions.
use Rattle.std.specs.Prelude.{ℕ, ◌+◌, ◌≤◌, ◌≡◌, List, [], ◌∷◌, ◌++◌, length}
use Rattle.format.specs.Digits.{digits, splice}
use Rattle.format.specs.Syntax.{Parse, got}
use Rattle.format.specs.declared.Edition.{Edition}
use Rattle.format.specs.Whole.{version}

-- xs stand in a buffer from a place on, if it has room for them, and `behind` is the place behind them
pub record AppendedAt (xs : List ℕ) (at : ℕ) (out out' : List ℕ) (behind : ℕ) : Type 0 where
  pub size : behind ≡ at + length xs
  pub bytes : at + length xs ≤ length out → out' ≡ splice out at xs
  pub long : length out' ≡ length out

-- p is a ledger of an edition and an id, whose content is laid behind the four bytes in front of it
pub record LedgerLaid (ed : Edition) (id : ℕ) (p : Parse (List ℕ)) (out out' : List ℕ) (behind : ℕ) : Type 0 where
  pub content : List ℕ
  pub is : p ≡ got (digits 256 2 (length content + 2) ++ (version ed ∷ id ∷ content)) []
  pub appended : AppendedAt content 4 out out' behind
