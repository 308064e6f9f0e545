-- Runs of fields as bytes that code goes by. A mark: w for a field of w bits, 128 + w for a signed one; but 128 + 9 is
-- a clock's extension.
-- Assumes nothing: these are definitions.
use Rattle.std.specs.Prelude.{ℕ, ◌+◌, ◌-◌, Bool, true, cond, ◌&&◌, ◌||◌, List, [], ◌∷◌, ltb, leb, eqb, length, get_or, Option, Some, None}
use Rattle.format.specs.Syntax.{Name, Sign, unsigned, signed, Syntax, field, at_most}
use Rattle.format.specs.Ledger.{size, widened}
use Rattle.format.specs.declared.Fault.TheVariants.{ExtensionTooLarge}

-- the mark of a clock's extension: 9 bits, whose number a body's reading tests (S-23)
abbrev pub ext : ℕ
ext = 137

unfoldable pub sign_of : ℕ → Sign
sign_of c = cond (ltb c 128 || eqb c ext) unsigned signed

unfoldable pub width_of : ℕ → ℕ
width_of c = cond (ltb c 128) c (c - 128)

-- the bytes of a field in a ledger, and the number there
unfoldable pub size_of : ℕ → ℕ
size_of c = size (sign_of c) (width_of c)

unfoldable pub shown_of : ℕ → ℕ → ℕ
shown_of c v = widened (sign_of c) (width_of c) v

-- a mark that there is: 1 to 64 bits, or 4 to 32 bits signed, or an extension
abbrev pub mark_ok : ℕ → Bool
mark_ok c = cond (ltb c 128) (leb 1 c && leb c 64) (leb 132 c && leb c 160)

abbrev pub marks_ok : List ℕ → Bool
marks_ok [] = true
marks_ok (c ∷ cs) = mark_ok c && marks_ok cs

-- the number that is tested: an extension's; 0 of any other field
abbrev pub ext_of : ℕ → ℕ → ℕ
ext_of c v = cond (eqb c ext) v 0

-- the bytes in a ledger of a field whose number passes its test, and none where it does not
unfoldable pub size_for : ℕ → ℕ → Option ℕ
size_for c v = cond (leb (ext_of c v) 299) (Some (size_of c)) None

-- the test of an extension's number in front of what follows it
abbrev pub tested : ℕ → ℕ → Syntax → Syntax
tested c v s = cond (eqb c ext) (at_most ExtensionTooLarge v 299 s) s

-- a field by its mark, and what follows its number
abbrev pub line : Name → ℕ → (ℕ → Syntax) → Syntax
line nm c k = field (sign_of c) nm (width_of c) (λ v. tested c v (k v))

-- the first name, and the others; no name where there is none left
abbrev pub head_name : List Name → Name
head_name [] = ""
head_name (nm ∷ nms) = nm

abbrev pub tail_names : List Name → List Name
tail_names [] = []
tail_names (nm ∷ nms) = nms

-- the fields of a run, and what follows the last one's number
unfoldable pub run : List Name → ℕ → List ℕ → (ℕ → Syntax) → Syntax
run nms v [] k = k v
run nms v (c ∷ cs) k = line (head_name nms) c (λ x. run (tail_names nms) x cs k)

-- the fields of a run, and what follows them in any case
abbrev pub run_of : List Name → List ℕ → Syntax → Syntax
run_of nms cs s = run nms 0 cs (λ _. s)

-- the bits and the bytes of a run
abbrev pub widths_of : List ℕ → ℕ
widths_of [] = 0
widths_of (c ∷ cs) = width_of c + widths_of cs

abbrev pub sizes_of : List ℕ → ℕ
sizes_of [] = 0
sizes_of (c ∷ cs) = size_of c + sizes_of cs

-- the bits of the last field of a run
abbrev pub last_width : List ℕ → ℕ
last_width cs = width_of (get_or cs (length cs - 1) 0)
