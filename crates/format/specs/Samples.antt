-- Document 01's samples P1 to P12, and samples of ledgers of both editions, of clocks' extensions and of conversions;
-- those of copies without covariance are in RedactSamples. That each list holds is shown in proofs/SamplesHold, by
-- computation.
-- Assumes nothing.
use Rattle.std.specs.Prelude.{ℕ, ◌+◌, ◌≡◌, List, [], ◌∷◌, ◌++◌, map, ℤ, pos, negsuc, length, replicate, Option, Some, None, Result, Err}
use Rattle.format.specs.Digits.{digits}
use Rattle.format.specs.Syntax.{Parse, got, refused, and_then}
use Rattle.format.specs.declared.Edition.{Edition}
use Rattle.format.specs.declared.Edition.TheVariants.{First, Second}
use Rattle.format.specs.Whole.{entries_of, body_read, version, id_of}
use Rattle.format.specs.ByName.{the_int}
use Rattle.format.specs.Refusals.{fault_number, refuse}
use Rattle.format.specs.Calls.{done, filed, relaid, restored, write_answer, write_left, read_answer, read_left}
use Rattle.format.specs.Convert.{converted, convert_answer, convert_left}
use Rattle.format.specs.Redact.{redacted, redact_answer, redact_left}
use Rattle.format.specs.declared.Refusal.{Refusal}
use Rattle.format.specs.declared.Output.{Output}
use Rattle.format.specs.declared.Fault.TheVariants.{BodyEmpty, BufferTooShort, ValueMisfit, PlanInexact}

-- A case and what it must give: a body under its id and its ledger in an edition; its plain or kept body; its refusal,
-- the same of both; a body of fragments and their latitudes; a ledger, its id and its plain or kept body, or its
-- refusal; a ledger in the edition that is wanted, or the refusal; a ledger's copy without covariance, or the refusal;
-- a call with a buffer, the answer, and the buffer afterwards.
pub data Sample : Type 0 where
  files lays : Edition → ℕ → List ℕ → List ℕ → Sample
  refuses : Edition → ℕ → List ℕ → ℕ → ℕ → ℕ → Sample
  latitudes : List ℕ → List ℤ → Sample
  restores : List ℕ → ℕ → List ℕ → Sample
  denies : List ℕ → ℕ → ℕ → ℕ → Sample
  converts : Edition → List ℕ → List ℕ → Sample
  unconverted : Edition → List ℕ → ℕ → ℕ → ℕ → Sample
  redacts : List ℕ → List ℕ → Sample
  unredacted : List ℕ → ℕ → ℕ → ℕ → Sample
  writes : ℕ → List ℕ → List ℕ → Result Output Refusal → List ℕ → Sample
  reads : List ℕ → List ℕ → Result Output Refusal → List ℕ → Sample
  moves : Edition → List ℕ → List ℕ → Result Output Refusal → List ℕ → Sample
  copies : List ℕ → List ℕ → Result Output Refusal → List ℕ → Sample

-- a refusal's number and values, as the papers have them; none of a result
abbrev pub refusal_in : {A : Type 0} → Parse A → Option (ℕ × ℕ × ℕ)
refusal_in (got a rest) = None
refusal_in (refused fault needed had) = Some (fault_number fault, needed, had)

abbrev pub Holds : Sample → Type 0
Holds (files ed id b l) = filed ed id b ≡ got l []
Holds (lays ed id b out) = relaid ed id b ≡ got out []
Holds (refuses ed id b x y z) = (refusal_in (filed ed id b) ≡ Some (x, y, z)) × (refusal_in (relaid ed id b) ≡ Some (x, y, z))
Holds (latitudes b vs) =
    and_then (body_read 1 b) (λ t rest. got (map (the_int "centre_latitude") (entries_of t)) rest) ≡ got vs []
Holds (restores l id b) = (id_of l ≡ id) × (restored l ≡ got b [])
Holds (denies l x y z) = refusal_in (restored l) ≡ Some (x, y, z)
Holds (converts ed l l') = converted ed l ≡ got l' []
Holds (unconverted ed l x y z) = refusal_in (converted ed l) ≡ Some (x, y, z)
Holds (redacts l l') = redacted l ≡ got l' []
Holds (unredacted l x y z) = refusal_in (redacted l) ≡ Some (x, y, z)
Holds (writes id b out a out') = (write_answer First id b (length out) ≡ a) × (write_left First id b out ≡ out')
Holds (reads l out a out') = (read_answer l (length out) ≡ a) × (read_left l out ≡ out')
Holds (moves ed l out a out') = (convert_answer ed l (length out) ≡ a) × (convert_left ed l out ≡ out')
Holds (copies l out a out') = (redact_answer l (length out) ≡ a) × (redact_left l out ≡ out')

abbrev pub AllHold : List Sample → Type 0
AllHold [] = Unit {0}
AllHold (s ∷ ss) = Holds s × AllHold ss

-- a plan of 31 bytes, all zero but for its plan_length
abbrev pub plan31 : ℕ → List ℕ
plan31 k = replicate 4 0 ++ digits 256 2 k ++ replicate 25 0

-- its ledger: 6 bytes, and 51 of fields
abbrev pub plan31_ledger : List ℕ
plan31_ledger = 0 ∷ 55 ∷ 1 ∷ 3 ∷ 0 ∷ 1 ∷ replicate 51 0

-- a fragment with its centre: an id, the flags with four reserved bits, and the latitude from the byte's last two bits on
abbrev pub fragment19 : ℕ → ℕ → List ℕ
fragment19 x y = replicate 4 0 ++ (x ∷ y ∷ y ∷ replicate 12 0)

unfoldable pub p1_to_p12 : List Sample
p1_to_p12 =
    files First 0 [] (0 ∷ 4 ∷ 1 ∷ 0 ∷ 0 ∷ 0 ∷ []) ∷
    refuses First 0 (0 ∷ 0 ∷ 7 ∷ 1 ∷ 1 ∷ 0x20 ∷ []) 4 344 16 ∷
    files First 0 (0 ∷ 0 ∷ 7 ∷ 0 ∷ 1 ∷ 0x20 ∷ 0x80 ∷ []) (0 ∷ 0x0e ∷ 1 ∷ 0 ∷ 0 ∷ 1 ∷ 0 ∷ 0 ∷ 0 ∷ 7 ∷ 0 ∷ 0 ∷ 1 ∷ 0x20 ∷ 1 ∷ 0 ∷ []) ∷
    files First 0 (0 ∷ 0 ∷ 7 ∷ 0 ∷ 1 ∷ 0x20 ∷ 0x80 ∷ 0xff ∷ []) (0 ∷ 0x0e ∷ 1 ∷ 0 ∷ 0 ∷ 1 ∷ 0 ∷ 0 ∷ 0 ∷ 7 ∷ 0 ∷ 0 ∷ 1 ∷ 0x20 ∷ 1 ∷ 0 ∷ []) ∷
    refuses First 1 (replicate 5 0) 1 48 40 ∷
    refuses First 2 [] 2 1 0 ∷
    refuses First 3 (plan31 24) 14 8 0 ∷
    files First 3 (plan31 25) plan31_ledger ∷
    files First 3 (plan31 4095) plan31_ledger ∷
    files First 5 [] (0 ∷ 2 ∷ 1 ∷ 5 ∷ []) ∷
    latitudes (fragment19 0x82 0) (negsuc 131071 ∷ []) ∷
    latitudes (fragment19 0x81 0xff) (pos 131071 ∷ []) ∷
    []

-- ---- ledgers: each refusal with its place

-- a ledger of right length around some content, in an edition
abbrev pub framed : Edition → ℕ → List ℕ → List ℕ
framed ed id content = digits 256 2 (length content + 2) ++ (version ed ∷ id ∷ content)

-- one satellite under id 0: satellite_id from place 6, west_east_flag at place 14
abbrev pub satellite : ℕ → ℕ → List ℕ
satellite x flag = framed First 0 (0 ∷ 1 ∷ x ∷ 0 ∷ 0 ∷ 7 ∷ 0 ∷ 0 ∷ 1 ∷ 0x20 ∷ flag ∷ 0 ∷ [])

-- one plan under id 3 of a mode, whose own fields start at place 35
abbrev pub plan_ledger : ℕ → List ℕ → List ℕ
plan_ledger m fields = framed First 3 (0 ∷ 1 ∷ replicate 6 0 ++ (m ∷ replicate 22 0) ++ fields)

-- one fragment under id 1 with its centre; the latitude's four bytes from place 13 on
abbrev pub centred : List ℕ → List ℕ
centred latitude = framed First 1 (0 ∷ 1 ∷ replicate 4 0 ++ (1 ∷ 0 ∷ 0 ∷ latitude) ++ replicate 20 0)

unfoldable pub ledger_samples : List Sample
ledger_samples =
    -- fewer than four bytes, a wrong length, another version
    denies (0 ∷ 1 ∷ 1 ∷ []) 23 0 0 ∷
    denies (0 ∷ 5 ∷ 1 ∷ 0 ∷ 0 ∷ 0 ∷ []) 23 0 0 ∷
    denies (0 ∷ 4 ∷ 3 ∷ 0 ∷ 0 ∷ 0 ∷ []) 24 2 0 ∷
    -- half a count, an entry that is missing, a byte over
    denies (framed First 0 (0 ∷ [])) 23 4 0 ∷
    denies (framed First 0 (0 ∷ 1 ∷ [])) 23 6 0 ∷
    denies (framed First 0 (0 ∷ 0 ∷ 0xff ∷ [])) 23 6 0 ∷
    -- an id of more than 24 bits, a flag that is neither 0 nor 1, a latitude of more than 18 bits
    restores (satellite 0 1) 0 (0 ∷ 0 ∷ 7 ∷ 0 ∷ 1 ∷ 0x20 ∷ 0x80 ∷ []) ∷
    denies (satellite 1 1) 25 6 0 ∷
    denies (satellite 0 2) 25 14 0 ∷
    denies (centred (0 ∷ 2 ∷ 0 ∷ 0 ∷ [])) 25 13 0 ∷
    -- nine slots: their bytes are missing; an unused bit is set; all is well
    denies (plan_ledger 1 (0 ∷ 0 ∷ 9 ∷ 0 ∷ 0 ∷ 0 ∷ 0xff ∷ [])) 23 41 0 ∷
    denies (plan_ledger 1 (0 ∷ 0 ∷ 9 ∷ 0 ∷ 0 ∷ 0 ∷ 0xff ∷ 0xc0 ∷ [])) 25 41 0 ∷
    restores (plan_ledger 1 (0 ∷ 0 ∷ 9 ∷ 0 ∷ 0 ∷ 0 ∷ 0xff ∷ 0x80 ∷ [])) 3 (replicate 5 0 ++ (19 ∷ 1 ∷ replicate 13 0 ++ (9 ∷ 0 ∷ 0 ∷ 0xff ∷ 0x80 ∷ []))) ∷
    -- raw bytes that are missing
    denies (plan_ledger 3 (0 ∷ 2 ∷ 0xab ∷ [])) 23 37 0 ∷
    restores (plan_ledger 3 (0 ∷ 1 ∷ 0xab ∷ [])) 3 (replicate 5 0 ++ (14 ∷ 3 ∷ replicate 12 0 ++ (0xab ∷ []))) ∷
    -- a plain body over 4096 bytes
    denies (framed First 5 (replicate 4097 0)) 26 4097 4096 ∷
    []

-- ---- edition 2

-- a plan of edition 2: plan_length, mode, the mode's fields, filler. The first one's plan_length is at place 11, its
-- mode's fields start at 37.
abbrev pub plan2 : ℕ → ℕ → List ℕ → List ℕ → List ℕ
plan2 v m fields fs = replicate 5 0 ++ digits 256 2 v ++ (0 ∷ m ∷ replicate 22 0) ++ fields ++ digits 256 2 (length fs) ++ fs

-- mode 0: its two clocks, 12 bytes of a body, are 22 of a ledger; what follows the filler's count is at place 61
abbrev pub dwelt : ℕ → List ℕ → List ℕ
dwelt v fs = plan2 v 0 (replicate 22 0) fs

-- a ledger of one plan, and of two
abbrev pub alone : List ℕ → List ℕ
alone p = framed Second 3 (0 ∷ 1 ∷ p)

abbrev pub pair : List ℕ → List ℕ → List ℕ
pair p q = framed Second 3 (0 ∷ 2 ∷ p ++ q)

-- a body's plan of a mode: 13 bytes and others; of mode 3; and of mode 1, with three slots and one byte of filler
abbrev pub plan_bytes : ℕ → ℕ → List ℕ → List ℕ
plan_bytes v m rest = replicate 4 0 ++ digits 256 2 v ++ (m ∷ replicate 12 0) ++ rest

abbrev pub raw_plan : ℕ → List ℕ → List ℕ
raw_plan v rest = plan_bytes v 3 rest

abbrev pub slot_plan : ℕ → List ℕ
slot_plan packed = plan_bytes 19 1 (0 ∷ 3 ∷ 0 ∷ 2 ∷ packed ∷ 0xab ∷ [])

unfoldable pub edition_2_samples : List Sample
edition_2_samples =
    files Second 0 [] (0 ∷ 4 ∷ 2 ∷ 0 ∷ 0 ∷ 0 ∷ []) ∷
    -- P8 and P9 differ now, in plan_length; remarks are kept, and so are those of a plan that ends past the data; bytes
    -- after the last entry are not
    files Second 3 (plan31 25) (alone (dwelt 25 [])) ∷
    files Second 3 (plan31 4095) (alone (dwelt 4095 [])) ∷
    files Second 3 (plan31 27 ++ (0xab ∷ 0xcd ∷ [])) (alone (dwelt 27 (0xab ∷ 0xcd ∷ []))) ∷
    files Second 3 (plan31 30 ++ (0xab ∷ 0xcd ∷ [])) (alone (dwelt 30 (0xab ∷ 0xcd ∷ []))) ∷
    files Second 3 (plan31 26 ++ (0xab ∷ 0xcd ∷ [])) (alone (dwelt 26 (0xab ∷ []))) ∷
    -- raw bytes within the data, and the bytes behind the 13 of a raw plan that ends past it
    files Second 3 (raw_plan 15 (0xab ∷ 0xcd ∷ [])) (alone (plan2 15 3 (0 ∷ 2 ∷ 0xab ∷ 0xcd ∷ []) [])) ∷
    files Second 3 (raw_plan 16 (0xab ∷ 0xcd ∷ [])) (alone (plan2 16 3 (0 ∷ 0 ∷ []) (0xab ∷ 0xcd ∷ []))) ∷
    -- padding is zero in front of filler; the kept body has both, and no bytes behind the last plan
    files Second 3 (slot_plan 0xff) (alone (plan2 19 1 (0 ∷ 0 ∷ 3 ∷ 0 ∷ 0 ∷ 2 ∷ 0xe0 ∷ []) (0xab ∷ []))) ∷
    lays Second 3 (slot_plan 0xff ++ (7 ∷ 7 ∷ 7 ∷ [])) (slot_plan 0xe0) ∷
    lays Second 3 (raw_plan 16 (0xab ∷ 0xcd ∷ [])) (raw_plan 16 (0xab ∷ 0xcd ∷ [])) ∷
    -- P7 is refused in either edition
    refuses Second 3 (plan31 24) 14 8 0 ∷
    -- and back
    restores (framed Second 0 (0 ∷ 0 ∷ [])) 0 [] ∷
    restores (alone (dwelt 27 (0xab ∷ 0xcd ∷ []))) 3 (plan31 27 ++ (0xab ∷ 0xcd ∷ [])) ∷
    restores (alone (dwelt 4095 [])) 3 (plan31 4095) ∷
    restores (pair (dwelt 26 (0xab ∷ [])) (dwelt 27 [])) 3 (plan31 26 ++ (0xab ∷ []) ++ plan31 27) ∷
    restores (alone (plan2 15 3 (0 ∷ 2 ∷ 0xab ∷ 0xcd ∷ []) [])) 3 (raw_plan 15 (0xab ∷ 0xcd ∷ [])) ∷
    restores (alone (plan2 16 3 (0 ∷ 0 ∷ []) (0xab ∷ 0xcd ∷ []))) 3 (raw_plan 16 (0xab ∷ 0xcd ∷ [])) ∷
    -- a length that is missing, and one of more than 12 bits; a filler's count that is missing, and filler that is
    denies (framed Second 3 (0 ∷ 1 ∷ replicate 5 0)) 23 11 0 ∷
    denies (alone (dwelt 4096 [])) 25 11 0 ∷
    denies (framed Second 3 (0 ∷ 1 ∷ replicate 53 0)) 23 59 0 ∷
    denies (framed Second 3 (0 ∷ 1 ∷ replicate 53 0 ++ (0 ∷ 2 ∷ 0xab ∷ []))) 23 61 0 ∷
    -- a length below that of the fields, too much filler, and too little of a plan that is not the last by the ledger's
    -- count
    denies (alone (dwelt 24 [])) 28 61 0 ∷
    denies (alone (dwelt 25 (0xab ∷ []))) 28 61 0 ∷
    denies (pair (dwelt 26 []) (dwelt 25 [])) 28 61 0 ∷
    denies (pair (dwelt 26 []) []) 28 61 0 ∷
    -- plans behind the last by the ledger's count are bytes over
    denies (framed Second 3 (0 ∷ 1 ∷ dwelt 26 [] ++ dwelt 25 [])) 23 61 0 ∷
    -- filler behind raw bytes; bytes that would be raw; raw bytes of a plan that ends past the data
    denies (alone (plan2 15 3 (0 ∷ 1 ∷ 0xab ∷ []) (0xcd ∷ []))) 28 42 0 ∷
    denies (alone (plan2 15 3 (0 ∷ 0 ∷ []) (0xab ∷ 0xcd ∷ []))) 28 41 0 ∷
    denies (alone (plan2 16 3 (0 ∷ 2 ∷ 0xab ∷ 0xcd ∷ []) [])) 28 43 0 ∷
    -- a kept body of one byte too many, nearly all of it filler
    denies (alone (dwelt 4091 (replicate 4066 0))) 26 4097 4096 ∷
    []

-- ---- S-23, extensions above 299: a body with one is refused, a ledger with one is read

-- a clock of base 0 and extension 256 + x, and one of extension 0
abbrev pub clock_of : ℕ → List ℕ
clock_of x = replicate 4 0 ++ (1 ∷ x ∷ [])

abbrev pub clock0 : List ℕ
clock0 = replicate 6 0

-- a time association, and its ledger: the extension is at place 15
abbrev pub associated : ℕ → List ℕ
associated x = 0 ∷ clock_of x ++ replicate 12 0

abbrev pub associated_ledger : Edition → ℕ → List ℕ
associated_ledger ed x = framed ed 2 (replicate 11 0 ++ (1 ∷ x ∷ replicate 12 0))

-- a fragment without a centre, of n new and m obsolescent delivery systems; and a system with a clock
abbrev pub changing : ℕ → ℕ → List ℕ → List ℕ → List ℕ
changing n m news olds = replicate 7 0 ++ (n ∷ news) ++ (0 ∷ m ∷ olds)

abbrev pub system_of : List ℕ → List ℕ
system_of clock = replicate 4 0 ++ clock

-- a plan of a length and a mode, and what stands behind these: clocks, of which the first two are those of every plan
abbrev pub clocked : ℕ → ℕ → List ℕ → List ℕ
clocked v m clocks = replicate 4 0 ++ digits 256 2 v ++ (m ∷ clocks)

unfoldable pub extension_samples : List Sample
extension_samples =
    -- 299 is the last one
    files First 2 (associated 43) (associated_ledger First 43) ∷
    files Second 2 (associated 43) (associated_ledger Second 43) ∷
    refuses First 2 (associated 44) 30 300 299 ∷
    refuses Second 2 (associated 255) 30 511 299 ∷
    -- the test of a group's bits comes first
    refuses First 2 (0 ∷ clock_of 44) 9 152 56 ∷
    refuses First 1 (changing 2 0 (system_of (clock_of 44)) []) 7 160 96 ∷
    refuses First 3 (clocked 25 0 (clock0 ++ clock0 ++ clock_of 44)) 10 96 48 ∷
    -- a clock is read whole before its extension is tested; what stands behind it comes later: the next clock, the test
    -- of the mode's bits, the plan's end
    refuses First 3 (clocked 0 0 (0 ∷ 0 ∷ 0 ∷ 0 ∷ 1 ∷ [])) 1 104 96 ∷
    refuses First 3 (clocked 0 0 (clock_of 44)) 30 300 299 ∷
    refuses First 3 (clocked 0 0 (clock_of 44 ++ clock0)) 30 300 299 ∷
    refuses First 3 (clocked 0 0 (clock_of 44 ++ clock0 ++ clock0 ++ clock0)) 30 300 299 ∷
    -- every clock of a plan, that of a raw one too; raw bytes and filler are no clocks
    refuses First 3 (clocked 13 3 (clock0 ++ clock_of 45)) 30 301 299 ∷
    refuses First 3 (clocked 25 0 (clock0 ++ clock0 ++ clock0 ++ clock_of 46)) 30 302 299 ∷
    refuses Second 3 (clocked 37 2 (clock0 ++ clock0 ++ clock0 ++ clock0 ++ clock0 ++ clock_of 47)) 30 303 299 ∷
    lays First 3 (clocked 19 3 (clock0 ++ clock0 ++ clock_of 44)) (clocked 19 3 (clock0 ++ clock0 ++ clock_of 44)) ∷
    lays Second 3 (clocked 31 0 (clock0 ++ clock0 ++ clock0 ++ clock0 ++ clock_of 44)) (clocked 31 0 (clock0 ++ clock0 ++ clock0 ++ clock0 ++ clock_of 44)) ∷
    -- every system
    refuses First 1 (changing 2 0 (system_of clock0 ++ system_of (clock_of 44)) []) 30 300 299 ∷
    refuses First 1 (changing 1 2 (system_of clock0) (system_of clock0 ++ system_of (clock_of 44))) 30 300 299 ∷
    -- stored ledgers of both editions
    restores (associated_ledger First 44) 2 (associated 44) ∷
    restores (associated_ledger Second 255) 2 (associated 255) ∷
    []

-- ---- buffers: one byte short, and one byte more than the result

-- a buffer with something in it
abbrev pub used : ℕ → List ℕ
used n = replicate n 0xee

unfoldable pub call_samples : List Sample
call_samples =
    writes 0 [] (used 5) (Err (refuse BufferTooShort 6 5)) (used 5) ∷
    writes 0 [] (used 7) (done 0 6) (0 ∷ 4 ∷ 1 ∷ 0 ∷ 0 ∷ 0 ∷ 0xee ∷ []) ∷
    writes 2 [] (used 5) (Err (refuse BodyEmpty 1 0)) (used 5) ∷
    reads (satellite 0 1) (used 6) (Err (refuse BufferTooShort 7 6)) (used 6) ∷
    reads (satellite 0 1) (used 8) (done 0 7) (0 ∷ 0 ∷ 7 ∷ 0 ∷ 1 ∷ 0x20 ∷ 0x80 ∷ 0xee ∷ []) ∷
    reads (satellite 1 1) (used 6) (Err (refuse ValueMisfit 6 0)) (used 6) ∷
    []

-- ---- S-19: a ledger in the edition that is wanted

-- a plan's id and first reserved field, behind which edition 2 has plan_length
abbrev pub plan_head : List ℕ
plan_head = 0 ∷ 0 ∷ 0 ∷ 7 ∷ 5 ∷ []

-- what a plan of mode 0 has behind its length, 25 bytes of a body: reserved, mode, and four clocks, of which the first
-- has the extension 256 + x
abbrev pub plan_tail : ℕ → List ℕ
plan_tail x =
    9 ∷ 0 ∷
    0 ∷ 0 ∷ 0 ∷ 1 ∷ 2 ∷ 3 ∷ 4 ∷ 5 ∷ 63 ∷ 1 ∷ x ∷
    0 ∷ 0 ∷ 0 ∷ 0 ∷ 6 ∷ 7 ∷ 8 ∷ 9 ∷ 1 ∷ 0 ∷ 10 ∷
    0 ∷ 0 ∷ 0 ∷ 1 ∷ 0 ∷ 0 ∷ 0 ∷ 11 ∷ 0 ∷ 1 ∷ 12 ∷
    0 ∷ 0 ∷ 0 ∷ 0 ∷ 0 ∷ 0 ∷ 1 ∷ 13 ∷ 2 ∷ 0 ∷ 14 ∷
    []

-- the ledgers of one such plan: of edition 1, of 57 bytes; and of edition 2 with an exact length and no filler, of 61
abbrev pub plan_first : ℕ → List ℕ
plan_first x = 0 ∷ 55 ∷ 1 ∷ 3 ∷ 0 ∷ 1 ∷ plan_head ++ plan_tail x

abbrev pub plan_second : ℕ → List ℕ
plan_second x = 0 ∷ 59 ∷ 2 ∷ 3 ∷ 0 ∷ 1 ∷ plan_head ++ (0 ∷ 25 ∷ plan_tail x) ++ (0 ∷ 0 ∷ [])

-- the fields of mode 1 in a ledger, of three slots
abbrev pub three_slots : List ℕ
three_slots = 0 ∷ 0 ∷ 3 ∷ 0 ∷ 0 ∷ 2 ∷ 0xe0 ∷ []

-- a ledger of one satellite, of a version
abbrev pub satellite_of : ℕ → List ℕ
satellite_of v = 0 ∷ 14 ∷ v ∷ 0 ∷ 0 ∷ 1 ∷ 0 ∷ 0 ∷ 0 ∷ 7 ∷ 0 ∷ 0 ∷ 1 ∷ 0x20 ∷ 1 ∷ 0 ∷ []

unfoldable pub convert_samples : List Sample
convert_samples =
    -- no plans, one plan
    converts Second (0 ∷ 4 ∷ 1 ∷ 3 ∷ 0 ∷ 0 ∷ []) (0 ∷ 4 ∷ 2 ∷ 3 ∷ 0 ∷ 0 ∷ []) ∷
    converts First (0 ∷ 4 ∷ 2 ∷ 3 ∷ 0 ∷ 0 ∷ []) (0 ∷ 4 ∷ 1 ∷ 3 ∷ 0 ∷ 0 ∷ []) ∷
    converts Second (plan_first 43) (plan_second 43) ∷
    converts First (plan_second 43) (plan_first 43) ∷
    -- three slots, 18 bytes of a body; two raw bytes, 15
    converts Second (plan_ledger 1 three_slots) (alone (plan2 18 1 three_slots [])) ∷
    converts First (alone (plan2 18 1 three_slots [])) (plan_ledger 1 three_slots) ∷
    converts Second (plan_ledger 3 (0 ∷ 2 ∷ 0xab ∷ 0xcd ∷ [])) (alone (plan2 15 3 (0 ∷ 2 ∷ 0xab ∷ 0xcd ∷ []) [])) ∷
    converts First (alone (plan2 15 3 (0 ∷ 2 ∷ 0xab ∷ 0xcd ∷ []) [])) (plan_ledger 3 (0 ∷ 2 ∷ 0xab ∷ 0xcd ∷ [])) ∷
    -- filler, behind a plan that is exact and in front of one that is not; in the first of two; of a plan that ends
    -- past the data; behind slots
    unconverted First (pair (dwelt 25 []) (dwelt 26 (0xab ∷ []))) 29 1 0 ∷
    unconverted First (framed Second 3 (0 ∷ 3 ∷ dwelt 25 [] ++ dwelt 26 (0xab ∷ []) ++ dwelt 27 [])) 29 1 0 ∷
    unconverted First (pair (dwelt 26 (0xab ∷ [])) (dwelt 25 [])) 29 0 0 ∷
    unconverted First (alone (dwelt 4095 (0xab ∷ []))) 29 0 0 ∷
    unconverted First (alone (plan2 19 1 three_slots (0xab ∷ []))) 29 0 0 ∷
    -- a length that is not exact, without filler: the last plan ends past the data, a raw one too
    unconverted First (alone (dwelt 26 [])) 29 0 0 ∷
    unconverted First (pair (dwelt 25 []) (dwelt 26 [])) 29 1 0 ∷
    unconverted First (alone (plan2 16 3 (0 ∷ 0 ∷ []) [])) 29 0 0 ∷
    unconverted First (alone (plan2 16 3 (0 ∷ 0 ∷ []) (0xab ∷ 0xcd ∷ []))) 29 0 0 ∷
    -- of other ids the version byte alone changes
    converts Second (satellite_of 1) (satellite_of 2) ∷
    converts First (satellite_of 2) (satellite_of 1) ∷
    converts Second (0 ∷ 4 ∷ 1 ∷ 200 ∷ 0xab ∷ 0xcd ∷ []) (0 ∷ 4 ∷ 2 ∷ 200 ∷ 0xab ∷ 0xcd ∷ []) ∷
    -- copied: the edition is there already, with filler too, and with a plan that ends past the data
    converts First (plan_first 43) (plan_first 43) ∷
    converts Second (plan_second 43) (plan_second 43) ∷
    converts Second (alone (dwelt 27 (0xab ∷ 0xcd ∷ []))) (alone (dwelt 27 (0xab ∷ 0xcd ∷ []))) ∷
    converts Second (alone (dwelt 4095 [])) (alone (dwelt 4095 [])) ∷
    -- an extension of 300
    converts Second (plan_first 44) (plan_second 44) ∷
    converts First (plan_second 44) (plan_first 44) ∷
    converts Second (associated_ledger First 44) (associated_ledger Second 44) ∷
    converts First (associated_ledger Second 44) (associated_ledger First 44) ∷
    -- the ledger's own faults come first: from the other edition, and where the wanted one is there already
    unconverted First (0 ∷ 4 ∷ 3 ∷ 3 ∷ 0 ∷ 0 ∷ []) 24 2 0 ∷
    unconverted Second (0 ∷ 4 ∷ 3 ∷ 3 ∷ 0 ∷ 0 ∷ []) 24 2 0 ∷
    unconverted Second (0 ∷ 5 ∷ 1 ∷ 3 ∷ 0 ∷ 0 ∷ []) 23 0 0 ∷
    unconverted First (0 ∷ 5 ∷ 1 ∷ 3 ∷ 0 ∷ 0 ∷ []) 23 0 0 ∷
    unconverted Second (satellite 1 1) 25 6 0 ∷
    unconverted First (satellite 1 1) 25 6 0 ∷
    unconverted Second (pair (dwelt 26 []) (dwelt 25 [])) 28 61 0 ∷
    unconverted Second (framed Second 5 (replicate 4097 0)) 26 4097 4096 ∷
    -- and before 29: behind a plan that is not exact, of a later one, and of the size
    unconverted First (pair (dwelt 26 (0xab ∷ [])) (dwelt 25 (0xab ∷ []))) 28 117 0 ∷
    unconverted First (pair (dwelt 26 (0xab ∷ [])) []) 23 62 0 ∷
    unconverted First (alone (dwelt 4091 (replicate 4066 0))) 26 4097 4096 ∷
    -- calls: 22 names the length of the result, and comes behind 29
    moves Second (plan_first 43) (used 60) (Err (refuse BufferTooShort 61 60)) (used 60) ∷
    moves Second (plan_first 43) (used 62) (done 3 61) (plan_second 43 ++ (0xee ∷ [])) ∷
    moves First (plan_second 43) (used 56) (Err (refuse BufferTooShort 57 56)) (used 56) ∷
    moves First (plan_second 43) (used 57) (done 3 57) (plan_first 43) ∷
    moves First (alone (dwelt 26 [])) (used 1) (Err (refuse PlanInexact 0 0)) (used 1) ∷
    moves Second (satellite 1 1) (used 1) (Err (refuse ValueMisfit 6 0)) (used 1) ∷
    []
