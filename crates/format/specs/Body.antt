-- A body's bits read by a description, and fields laid out as a body again.
-- Assumes nothing: these are definitions.
use Rattle.std.specs.Prelude.{ℕ, ◌+◌, ◌*◌, ◌-◌, ◌/◌, cond, true, false, List, [], ◌∷◌, ◌++◌, leb, length, take, drop, replicate}
use Rattle.format.specs.Digits.{digits, value}
use Rattle.format.specs.Syntax.{Name, Syntax, end, field, when, need, at_most, slots, plan, raw, Field, num, flags, bytes, len, filler, added, Parse, got, refused, and_then, push}
use Rattle.format.specs.declared.Edition.{Edition}
use Rattle.format.specs.declared.Edition.TheVariants.{First, Second}
use Rattle.format.specs.declared.Fault.TheVariants.{FieldCut, PlanOverrun}

-- the bytes that m bits take
abbrev pub wholes : ℕ → ℕ
wholes m = (m + 7) / 8

-- a plan's fields: its length, those that it is the length of, and its filler
abbrev pub planned : Name → ℕ → List Field → List ℕ → List Field
planned nm v ts fs = len nm v ∷ ts ++ (filler fs ∷ [])

-- The plan's end, e: what was read must not pass it (14); what stands in front of it is filler, and reading goes on
-- there.
abbrev pub close : Name → ℕ → ℕ → ℕ → Parse (List Field) → Parse (List Field)
close nm v n e p =
    and_then p (λ ts rest.
    let left : ℕ = e - (n - length rest) in
    cond (leb (n - length rest) e)
    (got (planned nm v ts (take left rest)) (drop left rest))
    (refused PlanOverrun (n - length rest - e) 0))

-- Reading by a description. n: the body's bits in all, so that n - length bs is the place of bs; e: the place of the
-- plan's end.
unfoldable pub read_body : ℕ → ℕ → Syntax → List ℕ → Parse (List Field)
read_body n e end bs = got [] bs
read_body n e (field g nm w k) bs =
    let v : ℕ = value 2 (take w bs) in
    let more : Parse (List Field) = push (num g nm w v) (read_body n e (k v) (drop w bs)) in
    cond (leb w (length bs)) more (refused FieldCut (n - length bs + w) n)
read_body n e (when true k l) bs = read_body n e k bs
read_body n e (when false k l) bs = read_body n e l bs
read_body n e (need a w k) bs =
    let more : Parse (List Field) = read_body n e k bs in
    cond (leb w (length bs)) more (refused a w (length bs))
read_body n e (at_most a v m k) bs =
    let more : Parse (List Field) = read_body n e k bs in
    cond (leb v m) more (refused a v m)
read_body n e (slots nm a m k) bs =
    let more : Parse (List Field) = push (flags nm (take m bs)) (read_body n e k (drop (8 * wholes m) bs)) in
    cond (leb m (length bs)) more (refused a m (length bs))
read_body n e (plan nm k) bs =
    let after : List ℕ = drop 12 bs in
    let v : ℕ = value 2 (take 12 bs) in
    let e' : ℕ = n - length after + 8 * v in
    let more : Parse (List Field) = close nm v n e' (read_body n e' k after) in
    cond (leb 12 (length bs)) more (refused FieldCut (n - length bs + 12) n)
read_body n e (raw nm) bs =
    let m : ℕ = cond (leb e n) (e - (n - length bs)) 0 in
    got (bytes nm (take m bs) ∷ []) (drop m bs)

-- slots and their padding: zeros to the byte
abbrev pub padded : List ℕ → List ℕ
padded bs = bs ++ replicate (8 * wholes (length bs) - length bs) 0

-- a plan's length, where it came as v and the fields behind it are laid out as bs
abbrev pub length_of_plan : Edition → ℕ → List ℕ → ℕ
length_of_plan First v bs = length bs / 8
length_of_plan Second v bs = v

-- The fields' bits in the order read, padding zero.
unfoldable pub laid : Edition → List Field → List ℕ
laid ed [] = []
laid ed (num g nm w v ∷ ts) = digits 2 w v ++ laid ed ts
laid ed (flags nm bs ∷ ts) = padded bs ++ laid ed ts
laid ed (bytes nm bs ∷ ts) = bs ++ laid ed ts
laid ed (len nm v ∷ ts) = digits 2 12 (length_of_plan ed v (laid ed ts)) ++ laid ed ts
laid ed (filler fs ∷ ts) = added ed fs ++ laid ed ts

-- "plain": lengths exact, no filler; "kept": both as they came
abbrev pub plain : List Field → List ℕ
plain ts = laid First ts

abbrev pub kept : List Field → List ℕ
kept ts = laid Second ts
