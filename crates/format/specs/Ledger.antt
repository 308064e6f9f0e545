-- Fields written as ledger bytes, and ledger bytes read by a description.
-- Assumes nothing: these are definitions.
use Rattle.std.specs.Prelude.{ℕ, ◌+◌, ◌*◌, ◌-◌, ◌/◌, ◌%◌, ◌^◌, Bool, cond, true, false, ◌&&◌, List, [], ◌∷◌, ◌++◌, leb, ltb, eqb, length, take, drop}
use Rattle.format.specs.Digits.{digits, value, bits_of, bytes_of}
use Rattle.format.specs.Syntax.{Sign, unsigned, signed, Syntax, end, field, when, need, at_most, slots, plan, raw, Field, num, flags, bytes, len, filler, added, Name, Parse, got, refused, and_then, push}
use Rattle.format.specs.declared.Edition.{Edition}
use Rattle.format.specs.declared.Edition.TheVariants.{First, Second}
use Rattle.format.specs.Body.{wholes, planned, padded, plain, kept}
use Rattle.format.specs.declared.Fault.TheVariants.{LedgerMisfit, ValueMisfit, PlanLengthMisfit}

-- the bytes of a field of w bits: 1, 2, 4 or 8, and 4 for a signed one
abbrev pub size : Sign → ℕ → ℕ
size unsigned w = cond (leb w 8) 1 (cond (leb w 16) 2 (cond (leb w 32) 4 8))
size signed w = 4

-- the number that these bytes spell, where v is the number that the bits spell; a signed one is widened to 32 bits
abbrev pub widened : Sign → ℕ → ℕ → ℕ
widened unsigned w v = v
widened signed w v = cond (ltb v (2 ^ (w - 1))) v (v + (2 ^ 32 - 2 ^ w))

-- bytes, given by their bits, behind their 2-byte count
abbrev pub counted_bytes : List ℕ → List ℕ
counted_bytes bs = digits 256 2 (length bs / 8) ++ bytes_of (length bs / 8) bs

-- every field in the order read, but padding; a plan's length and filler in the second edition alone
unfoldable pub ledger : Edition → List Field → List ℕ
ledger ed [] = []
ledger ed (num g nm w v ∷ ts) = digits 256 (size g w) (widened g w v) ++ ledger ed ts
ledger ed (flags nm bs ∷ ts) = bytes_of (wholes (length bs)) (padded bs) ++ ledger ed ts
ledger ed (bytes nm bs ∷ ts) = counted_bytes bs ++ ledger ed ts
ledger ed (len nm v ∷ ts) = added ed (digits 256 2 v) ++ ledger ed ts
ledger ed (filler fs ∷ ts) = added ed (counted_bytes fs) ++ ledger ed ts

-- A ledger field of q bytes must be there (23) and pass its test (25); its first byte is the place of either.
-- n: the ledger's bytes in all, so that n - length bs is the place of bs
abbrev pub grant : {A : Type 0} → ℕ → ℕ → Bool → List ℕ → Parse A → Parse A
grant n q fits bs more =
    cond (leb q (length bs)) (cond fits more (refused ValueMisfit (n - length bs) 0)) (refused LedgerMisfit (n - length bs) 0)

-- a 2-byte count and the bytes behind it, one field each; then k of their bits and of what follows
abbrev pub read_counted_bytes : ℕ → List ℕ → (List ℕ → List ℕ → Parse (List Field)) → Parse (List Field)
read_counted_bytes n bs k =
    let q : ℕ = value 256 (take 2 bs) in
    let after : List ℕ = drop 2 bs in
    let more : Parse (List Field) = grant n q true after (k (bits_of (take q after)) (drop q after)) in
    grant n 2 true bs more

-- Whether raw bytes and f bits of filler go together: within the data raw bytes go up to the plan's end, so that no
-- filler is behind them; where that end is past the data there are no raw bytes.
abbrev pub raw_left : Bool → ℕ → List Field → Bool
raw_left within f [] = true
raw_left within f (num g nm w v ∷ ts) = raw_left within f ts
raw_left within f (flags nm bs ∷ ts) = raw_left within f ts
raw_left within f (bytes nm bs ∷ ts) = cond within (eqb f 0) (eqb (length bs) 0)
raw_left within f (len nm v ∷ ts) = raw_left within f ts
raw_left within f (filler fs ∷ ts) = raw_left within f ts

-- "what such a plan would have left there" (S-18): whether a plan of v bytes leaves the fields ts and behind them f
-- bits of filler: all its bytes, or fewer if it is the last and ends past the data
abbrev pub leaves : Bool → ℕ → List Field → ℕ → Bool
leaves last v ts f =
    let m : ℕ = length (kept ts) + f in
    cond (eqb m (8 * v)) (raw_left true f ts) (last && (ltb m (8 * v) && raw_left false f ts))

-- a plan's filler, and once it is there the test of length, raw bytes and filler (28): the place is behind its count
abbrev pub read_filler : Bool → ℕ → Name → ℕ → List Field → List ℕ → Parse (List Field)
read_filler last n nm v ts bs =
    read_counted_bytes n bs (λ fs rest.
    cond (leaves last v ts (length fs)) (got (planned nm v ts fs) rest) (refused PlanLengthMisfit (n - length (drop 2 bs)) 0))

-- Reading by a description. A number is one that the field has: its w low bits, written so, are the bytes that stand
-- there. last: nothing follows the entry, so that a plan may end past the data
unfoldable pub read_ledger : Edition → Bool → ℕ → Syntax → List ℕ → Parse (List Field)
read_ledger ed last n end bs = got [] bs
read_ledger ed last n (field g nm w k) bs =
    let x : ℕ = value 256 (take (size g w) bs) in
    let v : ℕ = x % 2 ^ w in
    let more : Parse (List Field) = push (num g nm w v) (read_ledger ed last n (k v) (drop (size g w) bs)) in
    grant n (size g w) (eqb (widened g w v) x) bs more
read_ledger ed last n (when true k l) bs = read_ledger ed last n k bs
read_ledger ed last n (when false k l) bs = read_ledger ed last n l bs
read_ledger ed last n (need a w k) bs = read_ledger ed last n k bs
read_ledger ed last n (at_most a v m k) bs = read_ledger ed last n k bs
read_ledger ed last n (slots nm a m k) bs =
    let packed : List ℕ = bits_of (take (wholes m) bs) in
    let more : Parse (List Field) = push (flags nm (take m packed)) (read_ledger ed last n k (drop (wholes m) bs)) in
    grant n (wholes m) (eqb (value 2 (drop m packed)) 0) bs more
read_ledger First last n (plan nm k) bs =
    and_then (read_ledger First last n k bs) (λ ts rest. got (planned nm (length (plain ts) / 8) ts []) rest)
read_ledger Second last n (plan nm k) bs =
    let x : ℕ = value 256 (take 2 bs) in
    let v : ℕ = x % 2 ^ 12 in
    let more : Parse (List Field) =
    and_then (read_ledger Second last n k (drop 2 bs)) (λ ts rest. read_filler last n nm v ts rest) in
    grant n 2 (eqb v x) bs more
read_ledger ed last n (raw nm) bs = read_counted_bytes n bs (λ xs rest. got (bytes nm xs ∷ []) rest)
