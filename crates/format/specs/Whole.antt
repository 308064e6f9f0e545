-- A whole body and a whole ledger: table ids, entries, accepted bodies, plain and kept body, ledger, and its reading.
-- Assumes nothing: these are definitions.
use Rattle.std.specs.Prelude.{ℕ, zero, suc, ◌+◌, ◌*◌, ◌-◌, ◌/◌, ◌<◌, ◌≡◌, Bool, cond, true, false, ◌&&◌, ◌||◌, List, [], ◌∷◌, ◌++◌, leb, eqb, length, take, drop, get_or, Result, Ok, Err}
use Rattle.format.specs.Digits.{digits, value, Below, bits_of, bytes_of}
use Rattle.format.specs.Syntax.{Syntax, end, before, Field, Parse, got, refused, and_then, push}
use Rattle.format.specs.declared.Edition.{Edition}
use Rattle.format.specs.declared.Edition.TheVariants.{First, Second}
use Rattle.format.specs.declared.UnknownVersion.{UnknownVersion}
use Rattle.format.specs.Tables.{position, fragment, association, beamhopping, header, position3}
use Rattle.format.specs.Body.{read_body, laid}
use Rattle.format.specs.Ledger.{ledger, read_ledger, grant}
use Rattle.format.specs.declared.Fault.TheVariants.{BodyTooLong, LedgerMisfit, VersionUnknown, RestoredTooLong}

-- ---- table ids

-- a body is one set of fields; or a head and then entries, each while so many bits remain; or raw, left as it is
pub data Layout : Type 0 where
  sole : Syntax → Layout
  many : Syntax → ℕ → Syntax → Layout
  opaque : Layout

abbrev pub layout : ℕ → Layout
layout zero = many end 32 position
layout (suc zero) = many end 34 fragment
layout (suc (suc zero)) = sole association
layout (suc (suc (suc zero))) = many end 48 beamhopping
layout (suc (suc (suc (suc zero)))) = many header 32 position3
layout (suc (suc (suc (suc (suc n))))) = opaque

-- as it was before extensions were tested (S-23)
abbrev pub layout_before : Layout → Layout
layout_before (sole s) = sole (before s)
layout_before (many h m s) = many (before h) m (before s)
layout_before opaque = opaque

-- the fields of a whole body
pub data Table : Type 0 where
  one : List Field → Table
  list : List Field → List (List Field) → Table
  as_it_is : List ℕ → Table

-- the entries of a list; what is not a list has none
unfoldable pub entries_of : Table → List (List Field)
entries_of (one ts) = []
entries_of (list hs es) = es
entries_of (as_it_is b) = []

-- ---- reading a body

-- Entries while m bits remain, each made into something from the place at which it starts and its fields.
-- An entry takes bits, so as many turns as there are bits are enough.
unfoldable pub walk : {A : Type 0} → (ℕ → List Field → A) → ℕ → ℕ → Syntax → ℕ → List ℕ → Parse (List A)
walk f n m s zero bs = got [] bs
walk {A} f n m s (suc turns) bs =
    let more : Parse (List A) = and_then (read_body n 0 s bs) (λ ts rest. push (f (n - length bs) ts) (walk f n m s turns rest)) in
    cond (leb m (length bs)) more (got [] bs)

-- the entries' fields, and the places at which they start
abbrev pub entries : ℕ → ℕ → Syntax → ℕ → List ℕ → Parse (List (List Field))
entries n m s turns bs = walk (λ p ts. ts) n m s turns bs

abbrev pub starts : ℕ → ℕ → Syntax → ℕ → List ℕ → Parse (List ℕ)
starts n m s turns bs = walk (λ p ts. p) n m s turns bs

-- whatever is left behind is ignored
unfoldable pub read_as : Layout → List ℕ → Parse Table
read_as (sole s) b = and_then (read_body (8 * length b) 0 s (bits_of b)) (λ ts rest. got (one ts) [])
read_as (many h m s) b =
    and_then (read_body (8 * length b) 0 h (bits_of b)) (λ hs rest.
    and_then (entries (8 * length b) m s (length rest) rest) (λ es over. got (list hs es) []))
read_as opaque b = got (as_it_is b) []

-- the reading of a body by a layout, and under its table id
unfoldable pub body_read_as : Layout → List ℕ → Parse Table
body_read_as l b =
    let more : Parse Table = read_as l b in
    cond (leb (length b) 4096) more (refused BodyTooLong (length b) 4096)

abbrev pub body_read : ℕ → List ℕ → Parse Table
body_read id b = body_read_as (layout id) b

-- the places at which the entries of a body start; a body that is no list is one entry
unfoldable pub starts_as : Layout → List ℕ → Parse (List ℕ)
starts_as (sole s) b = and_then (read_body (8 * length b) 0 s (bits_of b)) (λ ts rest. got (0 ∷ []) [])
starts_as (many h m s) b = and_then (read_body (8 * length b) 0 h (bits_of b)) (λ hs rest. starts (8 * length b) m s (length rest) rest)
starts_as opaque b = got (0 ∷ []) []

unfoldable pub body_starts : ℕ → List ℕ → Parse (List ℕ)
body_starts id b =
    let more : Parse (List ℕ) = starts_as (layout id) b in
    cond (leb (length b) 4096) more (refused BodyTooLong (length b) 4096)

-- "accepted": a byte and bytes whose reading meets no refusal, and the fields that it gives. Now; and "accepted before
-- this change" (S-23), when extensions were not tested
pub record AcceptedAs (l : Layout) (id : ℕ) (b : List ℕ) (t : Table) : Type 0 where
  pub byte : id < 256
  pub bytes : Below 256 b
  pub reads : body_read_as l b ≡ got t []

abbrev pub Accepted : ℕ → List ℕ → Table → Type 0
Accepted id b t = AcceptedAs (layout id) id b t

abbrev pub AcceptedBefore : ℕ → List ℕ → Table → Type 0
AcceptedBefore id b t = AcceptedAs (layout_before (layout id)) id b t

-- ---- what the fields give

-- one after the other
unfoldable pub laids : Edition → List (List Field) → List ℕ
laids ed [] = []
laids ed (ts ∷ es) = laid ed ts ++ laids ed es

unfoldable pub ledgers : Edition → List (List Field) → List ℕ
ledgers ed [] = []
ledgers ed (ts ∷ es) = ledger ed ts ++ ledgers ed es

abbrev pub packed : List ℕ → List ℕ
packed bs = bytes_of (length bs / 8) bs

-- Every field once, padding zero, nothing over. In edition 1 the "plain body": plan lengths exact, no filler; in
-- edition 2 the "kept body" (S-18): both as they came.
unfoldable pub body_of : Edition → Table → List ℕ
body_of ed (one ts) = packed (laid ed ts)
body_of ed (list hs es) = packed (laid ed hs ++ laids ed es)
body_of ed (as_it_is b) = b

abbrev pub kept_of : Table → List ℕ
kept_of t = body_of Second t

-- what follows the table id in a ledger; the entries behind their 2-byte count
unfoldable pub content_of : Edition → Table → List ℕ
content_of ed (one ts) = ledger ed ts
content_of ed (list hs es) = ledger ed hs ++ (digits 256 2 (length es) ++ ledgers ed es)
content_of ed (as_it_is b) = b

-- an edition's "version byte"
abbrev pub version : Edition → ℕ
version First = 1
version Second = 2

-- "ledger": length, version, table id, content
unfoldable pub ledger_of : Edition → ℕ → Table → List ℕ
ledger_of ed id t = digits 256 2 (length (content_of ed t) + 2) ++ (version ed ∷ id ∷ content_of ed t)

-- ---- reading a ledger. n: its bytes in all

-- so many entries; the last, by the count, may be a plan that ends past the data
unfoldable pub counted : Edition → ℕ → Syntax → ℕ → List ℕ → Parse (List (List Field))
counted ed n s zero bs = got [] bs
counted ed n s (suc c) bs = and_then (read_ledger ed (eqb c 0) n s bs) (λ ts rest. push ts (counted ed n s c rest))

-- no bytes over
abbrev pub ended : ℕ → Parse Table → Parse Table
ended n p = and_then p (λ t rest. cond (eqb (length rest) 0) (got t []) (refused LedgerMisfit (n - length rest) 0))

unfoldable pub content_as : Edition → ℕ → Layout → List ℕ → Parse Table
content_as ed n (sole s) bs = ended n (and_then (read_ledger ed true n s bs) (λ ts rest. got (one ts) rest))
content_as ed n (many h m s) bs =
    ended n (and_then (read_ledger ed false n h bs) (λ hs rest.
    grant n 2 true rest (
    and_then (counted ed n s (value 256 (take 2 rest)) (drop 2 rest)) (λ es over. got (list hs es) over))))
content_as ed n opaque bs = got (as_it_is bs) []

-- the body that comes back, plain or kept, is not over 4096 bytes (26)
abbrev pub sized : Edition → Parse Table → Parse Table
sized ed p =
    and_then p (λ t rest.
    cond (leb (length (body_of ed t)) 4096) (got t rest) (refused RestoredTooLong (length (body_of ed t)) 4096))

-- the version and the table id that a ledger names
abbrev pub version_of : List ℕ → ℕ
version_of l = get_or l 2 0

abbrev pub id_of : List ℕ → ℕ
id_of l = get_or l 3 0

-- whether a version is an edition's, and the edition that it then is of
abbrev pub known : ℕ → Bool
known v = eqb v 1 || eqb v 2

abbrev pub edition_for : ℕ → Edition
edition_for v = cond (eqb v 2) Second First

-- what a version byte says: the edition that has it, or that none has
abbrev pub edition_named : ℕ → Result Edition UnknownVersion
edition_named v = cond (known v) (Ok (edition_for v)) (Err (record { 0 = v }))

abbrev pub IsVersionOf : ℕ → Result Edition UnknownVersion → Type 0
IsVersionOf v r = r ≡ edition_named v

abbrev pub edition_of : List ℕ → Edition
edition_of l = edition_for (version_of l)

-- the reading of a ledger: too short or of a wrong length (23), the version (24), the fields, their size
unfoldable pub ledger_read : List ℕ → Parse Table
ledger_read l =
    let more : Parse Table = sized (edition_of l) (content_as (edition_of l) (length l) (layout (id_of l)) (drop 4 l)) in
    cond (leb 4 (length l) && eqb (value 256 (take 2 l)) (length l - 2))
    (cond (known (version_of l)) more (refused VersionUnknown 2 0)) (refused LedgerMisfit 0 0)
