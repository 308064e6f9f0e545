-- What code that reads a plan of edition 2 goes by: its length is read as a field of 12 bits, its filler as raw bytes
-- are, and whether its fields have raw bytes is known by the mode.
-- Assumes nothing.
use mathlib.Core.Path.{◌≡◌, refl, sym, ap, ◌∙◌}
use mathlib.Core.Bool.{Bool, true, false, cond}
use mathlib.Core.List.{List, [], ◌∷◌}
use Prim.Native.Nat.{ℕ, zero, suc, ◌+◌, ◌-◌, ◌%◌, ◌^◌, ◌<◌}
use native.Mathlib.Omega.{arith}
use lib.Dec.{leb, eqb}
use lib.ListN.{length, take, drop}
use Prim.Native.String as text
use borrow.Author.Tests.{eq-eqb, ne_eqb, eqb-true, eqb-false}
use Rattle.format.specs.Digits.{value, bits_of}
use Rattle.format.specs.Syntax.{Name, Sign, unsigned, Syntax, end, field, when, need, at_most, slots, plan, raw, before, Field, num, flags, bytes, len, filler, Parse, got, refused, and_then, push}
use Rattle.format.specs.declared.Edition.{Edition}
use Rattle.format.specs.declared.Edition.TheVariants.{Second}
use Rattle.format.specs.Tables.{bits, u, clock, mode, hopping}
use Rattle.format.specs.Body.{planned, kept}
use Rattle.format.specs.Ledger.{raw_left, leaves, read_filler, read_ledger}
use Rattle.format.specs.ByName.{first_by, the}
use Rattle.format.specs.declared.Fault.TheVariants.{LedgerMisfit, ValueMisfit, PlanLengthMisfit}
use Rattle.format.proofs.ParseLaws.{push_got, grant_got}
use Rattle.format.proofs.Good

-- the length in front of other fields, and what is made of both
abbrev pub behind_length : (ℕ → List Field → List ℕ → Parse (List Field)) → List Field → List ℕ → Parse (List Field)
behind_length k [] rest = got [] rest
behind_length k (num g nm w v ∷ ts) rest = k v ts rest
behind_length k (flags nm bs ∷ ts) rest = got [] rest
behind_length k (bytes nm bs ∷ ts) rest = got [] rest
behind_length k (len nm v ∷ ts) rest = got [] rest
behind_length k (filler fs ∷ ts) rest = got [] rest

pub plan_field : (last : Bool) (n : ℕ) (nm : Name) (k : Syntax) (bs : List ℕ)
    → read_ledger Second last n (plan nm k) bs ≡ and_then (read_ledger Second last n (field unsigned nm 12 (λ _. k)) bs) (behind_length (read_filler last n nm))
unfolding read_ledger
plan_field last n nm k bs = go (leb 2 (length bs)) (eqb v x) (read_ledger Second last n k (drop 2 bs))
  where
    x : ℕ
    x = value 256 (take 2 bs)

    v : ℕ
    v = x % 2 ^ 12

    go : (t u : Bool) (p : Parse (List Field))
        → cond t (cond u (and_then p (λ ts rest. read_filler last n nm v ts rest)) (refused ValueMisfit (n - length bs) 0)) (refused LedgerMisfit (n - length bs) 0)
        ≡ and_then (cond t (cond u (push (num unsigned nm 12 v) p) (refused ValueMisfit (n - length bs) 0)) (refused LedgerMisfit (n - length bs) 0)) (behind_length (read_filler last n nm))
    go true true (got ts rest) = refl
    go true true (refused a b c) = refl
    go true false p = refl
    go false u p = refl

-- the filler as raw bytes, and what is made of them
abbrev pub behind_raw : (List ℕ → List ℕ → Parse (List Field)) → List Field → List ℕ → Parse (List Field)
behind_raw k [] rest = got [] rest
behind_raw k (num g nm w v ∷ ts) rest = got [] rest
behind_raw k (flags nm bs ∷ ts) rest = got [] rest
behind_raw k (bytes nm bs ∷ ts) rest = k bs rest
behind_raw k (len nm v ∷ ts) rest = got [] rest
behind_raw k (filler fs ∷ ts) rest = got [] rest

pub filler_raw : (last : Bool) (n : ℕ) (nm : Name) (v : ℕ) (ts : List Field) (bs : List ℕ)
    → read_filler last n nm v ts bs ≡ and_then (read_ledger Second last n (raw "filler") bs)
    (behind_raw (λ fs rest. cond (leaves last v ts (length fs)) (got (planned nm v ts fs) rest) (refused PlanLengthMisfit (n - length (drop 2 bs)) 0)))
unfolding read_ledger
filler_raw last n nm v ts bs = go (leb 2 (length bs)) (leb (value 256 (take 2 bs)) (length (drop 2 bs)))
  where
    q : ℕ
    q = value 256 (take 2 bs)

    after : List ℕ
    after = drop 2 bs

    k : List ℕ → List ℕ → Parse (List Field)
    k fs rest = cond (leaves last v ts (length fs)) (got (planned nm v ts fs) rest) (refused PlanLengthMisfit (n - length (drop 2 bs)) 0)

    go : (t u : Bool)
        → cond t (cond u (k (bits_of (take q after)) (drop q after)) (refused LedgerMisfit (n - length after) 0)) (refused LedgerMisfit (n - length bs) 0)
        ≡ and_then (cond t (cond u (got (bytes "filler" (bits_of (take q after)) ∷ []) (drop q after)) (refused LedgerMisfit (n - length after) 0)) (refused LedgerMisfit (n - length bs) 0)) (behind_raw k)
    go true true = refl
    go true false = refl
    go false u = refl

-- ---- raw bytes by the mode

abbrev NoRaw : Syntax → Type 0
NoRaw end = Unit {0}
NoRaw (field g nm w k) = (v : ℕ) → NoRaw (k v)
NoRaw (when t k l) = NoRaw k × NoRaw l
NoRaw (need a w k) = NoRaw k
NoRaw (at_most a v j k) = NoRaw k
NoRaw (slots nm a j k) = NoRaw k
NoRaw (plan nm k) = ⊥
NoRaw (raw nm) = ⊥

raw_free : {l i : Bool} {s : Syntax} {ts : List Field} → NoRaw s → Good.Good l i s ts → (w : Bool) (f : ℕ) → raw_left w f ts ≡ true
raw_free p Good.g_end w f = refl
raw_free p (Good.g_field g nm j k v _ _ r) w f = raw_free (p v) r w f
raw_free p (Good.g_yes r) w f = raw_free p.0 r w f
raw_free p (Good.g_no r) w f = raw_free p.1 r w f
raw_free p (Good.g_need a j _ r) w f = raw_free p r w f
raw_free p (Good.g_most a v j _ r) w f = raw_free p r w f
raw_free p (Good.g_slots nm a j bs _ _ r) w f = raw_free p r w f
raw_free p (Good.g_plan nm v fs _ r) w f = absurd p
raw_free p (Good.g_raw nm bs _ _) w f = absurd p

-- mode 3 is raw bytes and nothing else
mode_left : {l : Bool} {ts : List Field} (m : ℕ) → m < 4 → Good.Good l true (before (mode m)) ts → (w : Bool) (f : ℕ)
    → raw_left w f ts ≡ cond (eqb m 3) (cond w (eqb f 0) (eqb (length (kept ts)) 0)) true
mode_left zero h (Good.g_yes r) w f = raw_free (λ _ _ _ _ _ _. tt) r w f
mode_left (suc zero) h (Good.g_no (Good.g_yes r)) w f = raw_free (λ _ _ _ _. tt) r w f
mode_left (suc (suc zero)) h (Good.g_no (Good.g_no (Good.g_yes r))) w f = raw_free (λ _ _ _ _ _ _ _ _ _ _ _ _. tt) r w f
mode_left (suc (suc (suc zero))) h (Good.g_no (Good.g_no (Good.g_no (Good.g_raw nm bs _ _)))) w f =
    let z : length bs ≡ length (kept (bytes nm bs ∷ [])) = omega (arith, Good.laid_bytes Second nm bs [], Good.laid_nil Second) in
    ap (λ (k : ℕ). cond w (eqb f 0) (eqb k 0)) z
mode_left (suc (suc (suc (suc m)))) h r w f = absurd (omega arith)

same_test : (a b : ℕ) → b ≡ 104 + a → eqb a 0 ≡ eqb b 104
same_test a b e = go (eqb a 0) refl
  where
    go : (t : Bool) → eqb a 0 ≡ t → t ≡ eqb b 104
    go true q = sym (eq-eqb b 104 (omega (arith, eqb-true a 0 q)))
    go false q = sym (ne_eqb b 104 (λ z. eqb-false a 0 q (omega (arith, z, e))))

-- a field in front of others: its number, and the others
pub record FieldOf (l i : Bool) (g : Sign) (nm : Name) (w : ℕ) (k : ℕ → Syntax) (ts : List Field) : Type 0 where
  pub v : ℕ
  pub us : List Field
  pub is : ts ≡ num g nm w v ∷ us
  pub small : v < 2 ^ w
  pub good : Good.Good l i (k v) us

pub field_of : {l i : Bool} {g : Sign} {nm : Name} {w : ℕ} {k : ℕ → Syntax} {ts : List Field} → Good.Good l i (field g nm w k) ts → FieldOf l i g nm w k ts
field_of (Good.g_field g nm w k v {ts} _ h r) = record { v = v; us = ts; is = refl; small = h; good = r }

-- fields of n bits in front of others, none of them raw bytes
record Behind (l i : Bool) (n : ℕ) (s : Syntax) (ts : List Field) : Type 0 where
  us : List Field
  raws : (w : Bool) (f : ℕ) → raw_left w f ts ≡ raw_left w f us
  size : length (kept ts) ≡ n + length (kept us)
  good : Good.Good l i s us

line_of : {l i : Bool} (nm : Name) (w : ℕ) (s : Syntax) {ts : List Field} → Good.Good l i (u nm w s) ts → Behind l i w s ts
line_of nm w s r =
    let o = field_of r in
    record { us = o.us; raws = λ t f. ap (raw_left t f) o.is; size = ap (λ (x : List Field). length (kept x)) o.is ∙ Good.laid_num Second unsigned nm w o.v o.us; good = o.good }

join : {l i : Bool} {n m : ℕ} {s s₁ : Syntax} {ts : List Field} (x : Behind l i n s ts) → Behind l i m s₁ x.us → Behind l i (n + m) s₁ ts
join x y = record { us = y.us; raws = λ t f. x.raws t f ∙ y.raws t f; size = omega (arith, x.size, y.size); good = y.good }

-- a clock without its test
clock_of_lem : {l i : Bool} (c : Name) (s : Syntax) {ts : List Field} → Good.Good l i (before (clock c s)) ts → Behind l i 48 (before s) ts
clock_of_lem c s r =
    let t : Syntax = before s in
    let x = line_of (text.◌++◌ c "_base") 33 (u (text.◌++◌ c "_reserved_zero_future_use") 6 (u (text.◌++◌ c "_ext") 9 t)) r in
    let y = line_of (text.◌++◌ c "_reserved_zero_future_use") 6 (u (text.◌++◌ c "_ext") 9 t) x.good in
    join x (join y (line_of (text.◌++◌ c "_ext") 9 t y.good))

mode_of : (g : Sign) (w w₁ v m : ℕ) (us : List Field) → the "time_plan_mode" (num g "reserved_zero_future_use_mode" w v ∷ num unsigned "time_plan_mode" w₁ m ∷ us) ≡ m
unfolding first_by
mode_of g w w₁ v m us = refl

-- what stands within a plan, as a ledger has it, without tests: 104 bits, and the mode's
pub hopping_left : {l : Bool} {ts : List Field} → Good.Good l true (before hopping) ts → (w : Bool) (f : ℕ)
    → raw_left w f ts ≡ cond (eqb (the "time_plan_mode" ts) 3) (cond w (eqb f 0) (eqb (length (kept ts)) 104)) true
hopping_left {ts = ts} r w f =
    let o = field_of r in
    let p = field_of o.good in
    let m : ℕ = p.v in
    let x = clock_of_lem "time_of_application" (clock "cycle_duration" (mode m)) p.good in
    let y = clock_of_lem "cycle_duration" (mode m) x.good in
    let z = join x y in
    let ts' : List Field = num unsigned "reserved_zero_future_use_mode" 6 o.v ∷ num unsigned "time_plan_mode" 2 m ∷ p.us in
    let q : ts ≡ ts' = o.is ∙ ap (λ (t : List Field). num unsigned "reserved_zero_future_use_mode" 6 o.v ∷ t) p.is in
    let n : length (kept ts) ≡ 104 + length (kept z.us) =
    ap (λ (t : List Field). length (kept t)) q ∙ omega (arith, Good.laid_num Second unsigned "reserved_zero_future_use_mode" 6 o.v (num unsigned "time_plan_mode" 2 m ∷ p.us), Good.laid_num Second unsigned "time_plan_mode" 2 m p.us, z.size) in
    let k : the "time_plan_mode" ts ≡ m = ap (the "time_plan_mode") q ∙ mode_of unsigned 6 2 o.v m p.us in
    ap (raw_left w f) q ∙ z.raws w f ∙ mode_left m p.small z.good w f
    ∙ ap (λ (t : Bool). cond (eqb m 3) (cond w (eqb f 0) t) true) (same_test (length (kept z.us)) (length (kept ts)) n)
    ∙ ap (λ (j : ℕ). cond (eqb j 3) (cond w (eqb f 0) (eqb (length (kept ts)) 104)) true) (sym k)

-- the mode is the second byte of what stands within a plan in a ledger
pub mode_byte : (ed : Edition) (last : Bool) (n : ℕ) (bs : List ℕ) {ts : List Field} {rest : List ℕ} → read_ledger ed last n hopping bs ≡ got ts rest
    → the "time_plan_mode" ts ≡ value 256 (take 1 (drop 1 bs))
unfolding read_ledger
mode_byte ed last n bs {ts} {rest} e =
    let x : ℕ = value 256 (take 1 bs) in
    let v : ℕ = x % 2 ^ 6 in
    let x₁ : ℕ = value 256 (take 1 (drop 1 bs)) in
    let v₁ : ℕ = x₁ % 2 ^ 2 in
    let within : ℕ → Syntax = λ m. clock "time_of_application" (clock "cycle_duration" (mode m)) in
    let more₁ : Parse (List Field) = read_ledger ed last n (within v₁) (drop 1 (drop 1 bs)) in
    let more : Parse (List Field) = read_ledger ed last n (bits "time_plan_mode" 2 within) (drop 1 bs) in
    let p = grant_got n 1 (eqb v x) bs (push (num unsigned "reserved_zero_future_use_mode" 6 v) more) e in
    let o = push_got (num unsigned "reserved_zero_future_use_mode" 6 v) more p.2 in
    let q = grant_got n 1 (eqb v₁ x₁) (drop 1 bs) (push (num unsigned "time_plan_mode" 2 v₁) more₁) o.1 in
    let r = push_got (num unsigned "time_plan_mode" 2 v₁) more₁ q.2 in
    ap (the "time_plan_mode") (o.2 ∙ ap (λ (t : List Field). num unsigned "reserved_zero_future_use_mode" 6 v ∷ t) r.2)
    ∙ mode_of unsigned 6 2 v v₁ r.0 ∙ eqb-true v₁ x₁ q.1
