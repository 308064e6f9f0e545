-- The programs' lines as lists of ASCII codes: a byte string in hexadecimal, a refusal, a line with its place.
-- Assumes nothing: these are definitions.
use Rattle.std.specs.Prelude.{ℕ, zero, suc, ◌+◌, ◌/◌, ◌%◌, ◌≡◌, cond, List, [], ◌∷◌, ◌++◌, ltb, leb, length}
use Rattle.std.specs.Prelude.{Option, Some, None}
use Prim.Native.Char.{code}
use Prim.Native.String.{String, [] as []ˢ, ◌∷◌ as ◌∷ˢ◌}
use Rattle.format.specs.Syntax.{got}
use Rattle.format.specs.Calls.{left}

-- the codes of a text's characters
abbrev pub ascii : String → List ℕ
ascii []ˢ = []
ascii (c ∷ˢ s) = code c ∷ ascii s

-- `0` to `9`, then `a` to `f`
unfoldable pub hex_digit : ℕ → ℕ
hex_digit d = cond (ltb d 10) (48 + d) (87 + d)

-- two digits for each byte
unfoldable pub hex_text : List ℕ → List ℕ
hex_text [] = []
hex_text (x ∷ xs) = hex_digit (x / 16) ∷ hex_digit (x % 16) ∷ hex_text xs

unfoldable pub hex_line : List ℕ → List ℕ
hex_line xs = hex_text xs ++ ascii "\n"

-- the digits of n, at most as many as the first number, in front of those that are there; none for 0
unfoldable pub digits_before : ℕ → ℕ → List ℕ → List ℕ
digits_before zero n later = later
digits_before (suc k) zero later = later
digits_before (suc k) (suc m) later = digits_before k (suc m / 10) ((48 + suc m % 10) ∷ later)

-- n in decimal: the last digit, and those before it. A number of 64 bits has 20 at most.
unfoldable pub decimal : ℕ → List ℕ
decimal n = digits_before 19 (n / 10) ((48 + n % 10) ∷ [])

-- a space and a number
unfoldable pub spaced : ℕ → List ℕ
spaced n = ascii " " ++ decimal n

-- `R`, three numbers each behind a space, a newline
unfoldable pub refusal_line : ℕ → ℕ → ℕ → List ℕ
refusal_line number need have = ascii "R" ++ spaced number ++ spaced need ++ spaced have ++ ascii "\n"

-- a line with its place in front, and a space
unfoldable pub placed : ℕ → List ℕ → List ℕ
placed place line = decimal place ++ ascii " " ++ line

-- A line stored at the start of a buffer that has room for it, and its length; in a shorter buffer nothing is stored.
pub record Stored (line before after : List ℕ) (r : Option ℕ) : Type 0 where
  pub size : r ≡ cond (leb (length line) (length before)) (Some (length line)) None
  pub bytes : after ≡ left before (got line [])
