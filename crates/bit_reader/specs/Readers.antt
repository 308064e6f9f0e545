-- What a bit reader reads at its place, and where it stands afterwards; and the test that a group of bits is there.
-- Assumes nothing: these are definitions.
use Rattle.std.specs.Prelude.{ℕ, ◌-◌, ◌*◌, cond, List, ℤ, leb, length, Result, Ok, Err}
use Rattle.std.specs.Borrow.{Bor}
use Rattle.format.specs.Refusals.{refuse}
use Rattle.format.specs.declared.Fault.{Fault}
use Rattle.format.specs.declared.Refusal.{Refusal}
use Rattle.format.specs.declared.Found.{Found}
use Rattle.bits.specs.Read.{read_at, read_signed}
use Rattle.bit_reader.specs.declared.BitReader.{BitReader}

-- the reader at a body's first bit, and a reader at another place of its body
abbrev pub start_of : Bor (List ℕ) → BitReader
start_of s = record { «data» = s; bit_pos = 0 }

abbrev pub moved : BitReader → ℕ → BitReader
moved r at = record { «data» = r.«data»; bit_pos = at }

-- what w bits at the reader's place are, as an unsigned and as a signed number
abbrev pub reads : BitReader → ℕ → Result (Found ℕ) Refusal
reads r w = read_at r.«data».now r.bit_pos w

abbrev pub reads_signed : BitReader → ℕ → Result (Found ℤ) Refusal
reads_signed r w = read_signed r.«data».now r.bit_pos w

-- what was read, without the place behind it: the reader keeps that
unfoldable pub value_alone : {A : Type 0} → Result (Found A) Refusal → Result A Refusal
value_alone (Ok x) = Ok x.value
value_alone (Err f) = Err f

-- the place behind bits that were read; the old place where they were refused
unfoldable pub place_after : {A : Type 0} → Result (Found A) Refusal → ℕ → ℕ
place_after (Ok x) at = x.next
place_after (Err f) at = at

-- w bits from a place on are there, or the refusal with a fault: the bits needed and the bits there are
unfoldable pub enough_at : List ℕ → ℕ → Fault → ℕ → Result (Unit {0}) Refusal
enough_at b p a w = cond (leb w (8 * length b - p)) (Ok tt) (Err (refuse a w (8 * length b - p)))
