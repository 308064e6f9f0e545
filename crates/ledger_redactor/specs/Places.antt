-- Where a satellite's parts stand in a ledger, by the bytes there. Nothing public rests on these.
-- Assumes nothing: these are definitions.
use Rattle.std.specs.Prelude.{ℕ, ◌+◌, ◌-◌, ◌*◌, Bool, cond, eqb, List, ◌∷◌, ◌++◌, take, drop, get_or}
use Rattle.format.specs.Digits.{value}
use Rattle.runs.specs.declared.Flags.{Flags}

-- the flags of the satellite at a place: one byte each, behind five bytes
abbrev pub flags_at : List ℕ → ℕ → Flags
flags_at l at =
    record {
      metadata = eqb (get_or l (at + 5) 0) 1;
      start = eqb (get_or l (at + 6) 0) 1;
      stop = eqb (get_or l (at + 7) 0) 1;
      acceleration = eqb (get_or l (at + 8) 0) 1;
      covariance = eqb (get_or l (at + 9) 0) 1;
    }

-- the bytes of a usable time, of the metadata, of an ephemeris entry, and of the covariance, by the flags
abbrev pub usable_size : Bool → ℕ
usable_size flag = cond flag 8 0

abbrev pub metadata_size : Flags → ℕ
metadata_size f = cond f.metadata (20 + usable_size f.start + usable_size f.stop) 0

abbrev pub entry_size : Bool → ℕ
entry_size acceleration = cond acceleration 44 32

abbrev pub covariance_size : Bool → ℕ
covariance_size flag = cond flag 92 0

-- the place of the count of its ephemeris entries, behind its metadata
unfoldable pub count_at : List ℕ → ℕ → ℕ
count_at l at = at + 10 + metadata_size (flags_at l at)

-- the place behind these entries, at which its covariance starts
unfoldable pub covariance_at : List ℕ → ℕ → ℕ
covariance_at l at =
    let f : Flags = flags_at l at in
    count_at l at + 2 + value 256 (take 2 (drop (count_at l at) l)) * entry_size f.acceleration

-- the place behind it
unfoldable pub behind_at : List ℕ → ℕ → ℕ
behind_at l at = let f : Flags = flags_at l at in covariance_at l at + covariance_size f.covariance

-- its bytes up to a place, with the covariance flag 0
unfoldable pub copy_to : List ℕ → ℕ → ℕ → List ℕ
copy_to l at end = take 9 (drop at l) ++ (0 ∷ take (end - (at + 10)) (drop (at + 10) l))
