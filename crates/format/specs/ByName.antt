-- A field's value and place by the field's name.
-- Assumes nothing: these are definitions.
use Rattle.std.specs.Prelude.{ℕ, ◌+◌, ◌*◌, cond, List, [], ◌∷◌, ℤ, pos, length}
use lib.Text.{eqt}
use Rattle.format.specs.Digits.{twos}
use Rattle.format.specs.Body.{wholes}
use Rattle.format.specs.Syntax.{Name, unsigned, signed, Field, num, flags, bytes, len, filler}

abbrev pub name : Field → Name
name (num g nm w v) = nm
name (flags nm bs) = nm
name (bytes nm bs) = nm
name (len nm v) = nm
name (filler fs) = "filler"

-- a field's number; of slots, raw bytes and filler, how many bits they are
abbrev pub number_in : Field → ℕ
number_in (num g nm w v) = v
number_in (flags nm bs) = length bs
number_in (bytes nm bs) = length bs
number_in (len nm v) = v
number_in (filler fs) = length fs

-- a field's number with its sign
abbrev pub integer_in : Field → ℤ
integer_in (num unsigned nm w v) = pos v
integer_in (num signed nm w v) = twos w v
integer_in (flags nm bs) = pos (length bs)
integer_in (bytes nm bs) = pos (length bs)
integer_in (len nm v) = pos v
integer_in (filler fs) = pos (length fs)

-- how many of some bits are set, and how many of a field's slots are on; padding is no slot
unfoldable pub ones : List ℕ → ℕ
ones [] = 0
ones (b ∷ bs) = b + ones bs

abbrev pub slots_on_in : Field → ℕ
slots_on_in (num g nm w v) = 0
slots_on_in (flags nm bs) = ones bs
slots_on_in (bytes nm bs) = 0
slots_on_in (len nm v) = 0
slots_on_in (filler fs) = 0

-- what the first field of a name holds, or else a value of its own
unfoldable pub first_by : {A : Type 0} → (Field → A) → A → Name → List Field → A
first_by f none nm [] = none
first_by f none nm (t ∷ ts) = cond (eqt nm (name t)) (f t) (first_by f none nm ts)

abbrev pub the : Name → List Field → ℕ
the nm ts = first_by number_in 0 nm ts

abbrev pub the_int : Name → List Field → ℤ
the_int nm ts = first_by integer_in (pos 0) nm ts

abbrev pub slots_on_of : Name → List Field → ℕ
slots_on_of nm ts = first_by slots_on_in 0 nm ts

-- ---- places, for fields that start at the bit place p

-- the bits that a field takes in a body
abbrev pub bits_in : Field → ℕ
bits_in (num g nm w v) = w
bits_in (flags nm bs) = 8 * wholes (length bs)
bits_in (bytes nm bs) = length bs
bits_in (len nm v) = 12
bits_in (filler fs) = length fs

-- the place of the first field of a name, 0 where there is none; and the place behind it, or behind all fields
unfoldable pub from : Name → ℕ → List Field → ℕ
from nm p [] = 0
from nm p (t ∷ ts) = cond (eqt nm (name t)) p (from nm (p + bits_in t) ts)

unfoldable pub behind : Name → ℕ → List Field → ℕ
behind nm p [] = p
behind nm p (t ∷ ts) = cond (eqt nm (name t)) (p + bits_in t) (behind nm (p + bits_in t) ts)
