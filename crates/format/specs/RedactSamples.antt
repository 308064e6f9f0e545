-- Samples of S-31, an ephemeris ledger's copy without covariance: that the list holds is shown in proofs/SamplesHold.
-- Assumes nothing.
use Rattle.std.specs.Prelude.{ℕ, ◌*◌, List, [], ◌∷◌, ◌++◌, replicate, Err}
use Rattle.format.specs.Digits.{digits}
use Rattle.format.specs.declared.Edition.{Edition}
use Rattle.format.specs.declared.Edition.TheVariants.{First, Second}
use Rattle.format.specs.Refusals.{refuse}
use Rattle.format.specs.Calls.{done}
use Rattle.format.specs.declared.Fault.TheVariants.{BufferTooShort, ValueMisfit}
use Rattle.format.specs.Samples.{Sample, redacts, unredacted, copies, framed, satellite, satellite_of, associated_ledger, plan_first, plan_second, alone, pair, dwelt, used}

-- a stamp in a ledger, 8 bytes: year, reserved, day, fraction
abbrev pub stamped : ℕ → List ℕ
stamped x = x ∷ 1 ∷ 0 ∷ 2 ∷ 0 ∷ 0 ∷ 0 ∷ 3 ∷ []

-- the header, 10 bytes: two numbers of a version, and a date
abbrev pub header_bytes : List ℕ
header_bytes = 1 ∷ 2 ∷ stamped 20

-- a ledger of n satellites, of which the first is at place 16
abbrev pub ephemeris_ledger : Edition → ℕ → List ℕ → List ℕ
ephemeris_ledger ed n satellites = framed ed 4 (header_bytes ++ digits 256 2 n ++ satellites)

-- a satellite: its id and reserved bits, 5 bytes; its flags, metadata, usable start and stop time, acceleration,
-- covariance; and what follows
abbrev pub satellite_bytes : ℕ → List ℕ → List ℕ → List ℕ
satellite_bytes x flags rest = 0 ∷ 0 ∷ 0 ∷ x ∷ 5 ∷ flags ++ rest

-- one that has nothing but covariance, or not even that: its covariance flag is at its place 9, and what follows that
-- and a count of 0 is at 12
abbrev pub bare : ℕ → ℕ → List ℕ → List ℕ
bare x flag part = satellite_bytes x (0 ∷ 0 ∷ 0 ∷ 0 ∷ flag ∷ []) (0 ∷ 0 ∷ part)

-- the part: a stamp and 21 values, 92 bytes
abbrev pub part_bytes : ℕ → List ℕ
part_bytes x = stamped x ++ replicate 84 x

-- metadata without usable times, 20 bytes; an ephemeris entry, 32 bytes, and 44 with acceleration
abbrev pub metadata_bytes : List ℕ
metadata_bytes = stamped 30 ++ stamped 31 ++ (1 ∷ 1 ∷ 5 ∷ 6 ∷ [])

abbrev pub entry_bytes : ℕ → List ℕ
entry_bytes x = stamped x ++ replicate 24 x

abbrev pub wide_bytes : ℕ → List ℕ
wide_bytes x = entry_bytes x ++ replicate 12 77

-- a satellite with all of them and two entries; with one usable time and an entry; with entries alone
abbrev pub with_all : ℕ → List ℕ → List ℕ
with_all flag part =
    satellite_bytes 9 (1 ∷ 1 ∷ 1 ∷ 1 ∷ flag ∷ [])
    (metadata_bytes ++ stamped 40 ++ stamped 41 ++ (0 ∷ 2 ∷ wide_bytes 50 ++ wide_bytes 51) ++ part)

abbrev pub with_stop : ℕ → List ℕ → List ℕ
with_stop flag part =
    satellite_bytes 10 (1 ∷ 0 ∷ 1 ∷ 0 ∷ flag ∷ []) (metadata_bytes ++ stamped 41 ++ (0 ∷ 1 ∷ entry_bytes 52) ++ part)

abbrev pub with_entries : ℕ → ℕ → List ℕ → List ℕ
with_entries n flag part =
    satellite_bytes 11 (0 ∷ 0 ∷ 0 ∷ 0 ∷ flag ∷ []) (digits 256 2 n ++ replicate (n * 32) 0 ++ part)

-- a fragment without its centre and without delivery systems
abbrev pub fragment_ledger : Edition → List ℕ
fragment_ledger ed = framed ed 1 (0 ∷ 1 ∷ 0 ∷ 0 ∷ 0 ∷ 8 ∷ 0 ∷ 1 ∷ 4 ∷ replicate 8 0)

unfoldable pub redact_samples : List Sample
redact_samples =
    -- no satellite
    redacts (0 ∷ 14 ∷ 1 ∷ 4 ∷ header_bytes ++ (0 ∷ 0 ∷ [])) (0 ∷ 14 ∷ 1 ∷ 4 ∷ header_bytes ++ (0 ∷ 0 ∷ [])) ∷
    redacts (ephemeris_ledger Second 0 []) (ephemeris_ledger Second 0 []) ∷
    -- one, with covariance and without: 120 bytes, and 28
    redacts
    (0 ∷ 118 ∷ 1 ∷ 4 ∷ header_bytes ++ (0 ∷ 1 ∷ 0 ∷ 0 ∷ 0 ∷ 7 ∷ 5 ∷ 0 ∷ 0 ∷ 0 ∷ 0 ∷ 1 ∷ 0 ∷ 0 ∷ part_bytes 99))
    (0 ∷ 26 ∷ 1 ∷ 4 ∷ header_bytes ++ (0 ∷ 1 ∷ 0 ∷ 0 ∷ 0 ∷ 7 ∷ 5 ∷ 0 ∷ 0 ∷ 0 ∷ 0 ∷ 0 ∷ 0 ∷ 0 ∷ [])) ∷
    redacts (ephemeris_ledger Second 1 (bare 7 1 (part_bytes 98))) (ephemeris_ledger Second 1 (bare 7 0 [])) ∷
    redacts (ephemeris_ledger First 1 (bare 7 0 [])) (ephemeris_ledger First 1 (bare 7 0 [])) ∷
    redacts (ephemeris_ledger Second 1 (bare 7 0 [])) (ephemeris_ledger Second 1 (bare 7 0 [])) ∷
    -- of two or three the first, the last, the one between, all, and none
    redacts
    (ephemeris_ledger First 2 (bare 1 1 (part_bytes 99) ++ bare 2 0 []))
    (ephemeris_ledger First 2 (bare 1 0 [] ++ bare 2 0 [])) ∷
    redacts
    (ephemeris_ledger Second 2 (bare 1 0 [] ++ bare 2 1 (part_bytes 99)))
    (ephemeris_ledger Second 2 (bare 1 0 [] ++ bare 2 0 [])) ∷
    redacts
    (ephemeris_ledger First 2 (bare 1 1 (part_bytes 99) ++ bare 2 1 (part_bytes 98)))
    (ephemeris_ledger First 2 (bare 1 0 [] ++ bare 2 0 [])) ∷
    redacts
    (ephemeris_ledger Second 3 (bare 1 1 (part_bytes 99) ++ bare 2 0 [] ++ bare 3 0 []))
    (ephemeris_ledger Second 3 (bare 1 0 [] ++ bare 2 0 [] ++ bare 3 0 [])) ∷
    redacts
    (ephemeris_ledger First 3 (bare 1 0 [] ++ bare 2 1 (part_bytes 99) ++ bare 3 0 []))
    (ephemeris_ledger First 3 (bare 1 0 [] ++ bare 2 0 [] ++ bare 3 0 [])) ∷
    redacts
    (ephemeris_ledger First 3 (bare 1 0 [] ++ bare 2 0 [] ++ bare 3 1 (part_bytes 99)))
    (ephemeris_ledger First 3 (bare 1 0 [] ++ bare 2 0 [] ++ bare 3 0 [])) ∷
    redacts
    (ephemeris_ledger First 3 (bare 1 1 (part_bytes 99) ++ bare 2 1 (part_bytes 98) ++ bare 3 1 (part_bytes 97)))
    (ephemeris_ledger First 3 (bare 1 0 [] ++ bare 2 0 [] ++ bare 3 0 [])) ∷
    redacts
    (ephemeris_ledger Second 3 (bare 1 0 [] ++ bare 2 0 [] ++ bare 3 0 []))
    (ephemeris_ledger Second 3 (bare 1 0 [] ++ bare 2 0 [] ++ bare 3 0 [])) ∷
    -- metadata, usable times, acceleration and entries stay
    redacts (ephemeris_ledger First 1 (with_all 1 (part_bytes 99))) (ephemeris_ledger First 1 (with_all 0 [])) ∷
    redacts (ephemeris_ledger Second 1 (with_all 0 [])) (ephemeris_ledger Second 1 (with_all 0 [])) ∷
    redacts (ephemeris_ledger Second 1 (with_stop 1 (part_bytes 99))) (ephemeris_ledger Second 1 (with_stop 0 [])) ∷
    redacts
    (ephemeris_ledger First 1 (with_entries 3 1 (part_bytes 99)))
    (ephemeris_ledger First 1 (with_entries 3 0 [])) ∷
    redacts
    (ephemeris_ledger Second 3 (with_all 1 (part_bytes 99) ++ with_stop 0 [] ++ with_entries 1 1 (part_bytes 98)))
    (ephemeris_ledger Second 3 (with_all 0 [] ++ with_stop 0 [] ++ with_entries 1 0 [])) ∷
    -- other ids, with an extension of 300, filler, and bytes like those of an ephemeris
    redacts (satellite_of 1) (satellite_of 1) ∷
    redacts (satellite_of 2) (satellite_of 2) ∷
    redacts (fragment_ledger First) (fragment_ledger First) ∷
    redacts (fragment_ledger Second) (fragment_ledger Second) ∷
    redacts (associated_ledger First 44) (associated_ledger First 44) ∷
    redacts (associated_ledger Second 43) (associated_ledger Second 43) ∷
    redacts (plan_first 44) (plan_first 44) ∷
    redacts (plan_second 43) (plan_second 43) ∷
    redacts (alone (dwelt 27 (0xab ∷ 0xcd ∷ []))) (alone (dwelt 27 (0xab ∷ 0xcd ∷ []))) ∷
    redacts
    (framed First 5 (header_bytes ++ (0 ∷ 1 ∷ bare 7 1 (part_bytes 99))))
    (framed First 5 (header_bytes ++ (0 ∷ 1 ∷ bare 7 1 (part_bytes 99)))) ∷
    redacts (framed Second 255 (0xab ∷ 0xcd ∷ [])) (framed Second 255 (0xab ∷ 0xcd ∷ [])) ∷
    -- the reader's refusals: fewer than four bytes, a wrong length, bytes over, a version
    unredacted (0 ∷ 1 ∷ 1 ∷ []) 23 0 0 ∷
    unredacted (0 ∷ 15 ∷ 1 ∷ 4 ∷ header_bytes ++ (0 ∷ 0 ∷ [])) 23 0 0 ∷
    unredacted (ephemeris_ledger First 0 (0xff ∷ [])) 23 16 0 ∷
    unredacted (0 ∷ 14 ∷ 3 ∷ 4 ∷ header_bytes ++ (0 ∷ 0 ∷ [])) 24 2 0 ∷
    -- a part that is missing, and whose values are; one where the flag is 0
    unredacted (ephemeris_ledger First 1 (bare 7 1 [])) 23 28 0 ∷
    unredacted (ephemeris_ledger Second 1 (bare 7 1 (stamped 99))) 23 36 0 ∷
    unredacted (ephemeris_ledger First 1 (bare 7 0 (part_bytes 99))) 23 28 0 ∷
    -- a flag of 2, also of a later satellite; and a part's reserved field of more than 7 bits
    unredacted (ephemeris_ledger First 1 (bare 7 2 (part_bytes 99))) 25 25 0 ∷
    unredacted (ephemeris_ledger Second 2 (bare 7 1 (part_bytes 99) ++ bare 8 2 [])) 25 129 0 ∷
    unredacted (ephemeris_ledger First 1 (bare 7 1 (99 ∷ 0x80 ∷ replicate 90 0))) 25 29 0 ∷
    -- a body of 4,166 bytes, though the copy's would have 4,075
    unredacted (ephemeris_ledger First 1 (with_entries 131 1 (part_bytes 99))) 26 4166 4096 ∷
    -- and of other ids
    unredacted (satellite 1 1) 25 6 0 ∷
    unredacted (pair (dwelt 26 []) (dwelt 25 [])) 28 61 0 ∷
    -- calls: 22 names the copy's length, the same for all that differ only in covariance
    copies
    (ephemeris_ledger First 1 (bare 7 1 (part_bytes 99)))
    (used 27) (Err (refuse BufferTooShort 28 27)) (used 27) ∷
    copies (ephemeris_ledger First 1 (bare 7 0 [])) (used 27) (Err (refuse BufferTooShort 28 27)) (used 27) ∷
    copies
    (ephemeris_ledger First 1 (bare 7 1 (part_bytes 99)))
    (used 28) (done 4 28) (ephemeris_ledger First 1 (bare 7 0 [])) ∷
    copies
    (ephemeris_ledger First 1 (bare 7 1 (part_bytes 99)))
    (used 30) (done 4 28) (ephemeris_ledger First 1 (bare 7 0 []) ++ used 2) ∷
    copies
    (ephemeris_ledger Second 1 (bare 7 1 (part_bytes 99)))
    (used 119) (done 4 28) (ephemeris_ledger Second 1 (bare 7 0 []) ++ used 91) ∷
    copies (satellite_of 1) (used 15) (Err (refuse BufferTooShort 16 15)) (used 15) ∷
    copies (satellite_of 1) (used 17) (done 0 16) (satellite_of 1 ++ used 1) ∷
    -- the reader's refusals come before it
    copies (ephemeris_ledger First 1 (bare 7 2 [])) (used 1) (Err (refuse ValueMisfit 25 0)) (used 1) ∷
    []
