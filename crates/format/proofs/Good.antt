-- Which fields a description allows (`Good`), and what the laws ask of a description (`Fine`, and of an entry `Least`).
-- Assumes nothing.
use mathlib.Core.Path.{◌≡◌, refl, sym, ap, ◌∙◌}
use mathlib.Core.Bool.{Bool, true, false, cond, ◌&&◌, and-eq-true_iff}
use mathlib.Core.List.{List, [], ◌∷◌, ◌++◌, append_assoc, append-nil}
use Prim.Native.Nat.{ℕ, ◌+◌, ◌*◌, ◌-◌, ◌/◌, ◌%◌, ◌^◌, ◌<◌, ◌≤◌}
use native.Mathlib.Nat.{zero-sub}
use native.Mathlib.Omega.{arith}
use lib.Dec.{T, leb, ltb, eqb, leb→le, le→leb}
use lib.ListN.{length, replicate, length-append, length-replicate}
use borrow.Author.Tests.{eq-eqb, ne_eqb, eqb-true, lt-ltb, ltb-true}
use Rattle.format.specs.declared.Fault.{Fault}
use Rattle.format.specs.declared.Fault.TheVariants.{ExtensionTooLarge}
use Rattle.format.specs.Digits.{digits, Below, bytes_of}
use Rattle.format.specs.Syntax.{Name, Sign, unsigned, signed, Syntax, end, field, when, need, at_most, slots, plan, raw, before, Field, num, flags, bytes, len, filler, added}
use Rattle.format.specs.declared.Edition.{Edition}
use Rattle.format.specs.declared.Edition.TheVariants.{First, Second}
use Rattle.format.specs.Body.{wholes, planned, padded, laid, plain, kept}
use Rattle.format.specs.Ledger.{size, counted_bytes, ledger, raw_left, leaves}
use Rattle.format.proofs.DigitLaws.{length_digits, length_bytes, below_append, digits_below, zeros_below}

-- the widest field that a ledger has
abbrev pub widest : Sign → ℕ
widest unsigned = 64
widest signed = 32

-- what `leaves` finds: a plan's bytes are all there, or it is the last and ends past the data
pub data Leaves (l : Bool) (v : ℕ) (ts : List Field) (f : ℕ) : Type 0 where
  within : length (kept ts) + f ≡ 8 * v → raw_left true f ts ≡ true → Leaves l v ts f
  past : l ≡ true → length (kept ts) + f < 8 * v → raw_left false f ts ≡ true → Leaves l v ts f

pub leaves_got : (l : Bool) (v : ℕ) (ts : List Field) (f : ℕ) → leaves l v ts f ≡ true → Leaves l v ts f
leaves_got l v ts f q = go (eqb m (8 * v)) refl q
  where
    m : ℕ
    m = length (kept ts) + f

    go : (t : Bool) → eqb m (8 * v) ≡ t → cond t (raw_left true f ts) (l && (ltb m (8 * v) && raw_left false f ts)) ≡ true → Leaves l v ts f
    go true e h = within (eqb-true m (8 * v) e) h
    go false e h =
        let a = (and-eq-true_iff l (ltb m (8 * v) && raw_left false f ts)).0 h in
        let b = (and-eq-true_iff (ltb m (8 * v)) (raw_left false f ts)).0 a.1 in
        past a.0 (ltb-true m (8 * v) b.0) b.1

pub leaves_true : {l : Bool} {v : ℕ} {ts : List Field} {f : ℕ} → Leaves l v ts f → leaves l v ts f ≡ true
leaves_true {l} {v} {ts} {f} (within e r) = rw (eq-eqb (length (kept ts) + f) (8 * v) e) r
leaves_true {l} {v} {ts} {f} (past t h r) =
    rw (ne_eqb (length (kept ts) + f) (8 * v) (λ e. absurd (omega arith)), t, lt-ltb (length (kept ts) + f) (8 * v) h) r

-- past the data the filler does not count
pub raw_past : (f g : ℕ) (ts : List Field) → raw_left false f ts ≡ raw_left false g ts
raw_past f g [] = refl
raw_past f g (num s nm w v ∷ ts) = raw_past f g ts
raw_past f g (flags nm bs ∷ ts) = raw_past f g ts
raw_past f g (bytes nm bs ∷ ts) = refl
raw_past f g (len nm v ∷ ts) = raw_past f g ts
raw_past f g (filler fs ∷ ts) = raw_past f g ts

-- within it, none is always right
pub raw_none : (ts : List Field) → raw_left true 0 ts ≡ true
raw_none [] = refl
raw_none (num s nm w v ∷ ts) = raw_none ts
raw_none (flags nm bs ∷ ts) = raw_none ts
raw_none (bytes nm bs ∷ ts) = refl
raw_none (len nm v ∷ ts) = raw_none ts
raw_none (filler fs ∷ ts) = raw_none ts

-- What is known of a plan's length and filler: whole bytes, a length that fits 12 bits or else is exact, and as such a
-- plan leaves them.
pub record Ending (l : Bool) (v : ℕ) (fs : List ℕ) (ts : List Field) : Type 0 where
  pub fields : length (kept ts) % 8 ≡ 0
  pub whole : length fs % 8 ≡ 0
  pub below : Below 2 fs
  pub wide : 2 ^ 12 ≤ v → 8 * v ≡ length (kept ts) + length fs
  pub leaves : Leaves l v ts (length fs)

-- The fields that a description allows. l: whether nothing follows them, so that a plan may end past the data; i:
-- whether a plan is around them
pub data Good (l : Bool) : Bool → Syntax → List Field → Type 0 where
  g_end : {i : Bool} → Good l i end []
  g_field : {i : Bool} (g : Sign) (nm : Name) (w : ℕ) (k : ℕ → Syntax) (v : ℕ) {ts : List Field} → T (leb w (widest g)) → v < 2 ^ w → Good l i (k v) ts → Good l i (field g nm w k) (num g nm w v ∷ ts)
  g_yes : {i : Bool} {k m : Syntax} {ts : List Field} → Good l i k ts → Good l i (when true k m) ts
  g_no : {i : Bool} {k m : Syntax} {ts : List Field} → Good l i m ts → Good l i (when false k m) ts
  g_need : {i : Bool} (a : Fault) (w : ℕ) {k : Syntax} {ts : List Field} → w ≤ length (kept ts) → Good l i k ts → Good l i (need a w k) ts
  g_most : {i : Bool} (a : Fault) (v m : ℕ) {k : Syntax} {ts : List Field} → v ≤ m → Good l i k ts → Good l i (at_most a v m k) ts
  g_slots : {i : Bool} (nm : Name) (a : Fault) (m : ℕ) (bs : List ℕ) {k : Syntax} {ts : List Field} → length bs ≡ m → Below 2 bs → Good l i k ts → Good l i (slots nm a m k) (flags nm bs ∷ ts)
  g_plan : (nm : Name) (v : ℕ) (fs : List ℕ) {k : Syntax} {ts : List Field} → Ending l v fs ts → Good l true k ts → Good l false (plan nm k) (planned nm v ts fs)
  g_raw : (nm : Name) (bs : List ℕ) → Below 2 bs → length bs % 8 ≡ 0 → Good l true (raw nm) (bytes nm bs ∷ [])

pub good_plan : {l : Bool} (nm : Name) (i : Bool) (v : ℕ) (fs : List ℕ) {k : Syntax} {ts : List Field} → (T i → ⊥) → Ending l v fs ts → Good l true k ts → Good l i (plan nm k) (planned nm v ts fs)
good_plan nm false v fs t e r = g_plan nm v fs e r
good_plan nm true v fs t e r = absurd (t tt)

pub good_raw : {l : Bool} (nm : Name) (i : Bool) (bs : List ℕ) → T i → Below 2 bs → length bs % 8 ≡ 0 → Good l i (raw nm) (bytes nm bs ∷ [])
good_raw nm true bs t h a = g_raw nm bs h a
good_raw nm false bs t h a = absurd t

-- ---- the lengths of what `laid` lays out

pub length_padded : (bs : List ℕ) → length (padded bs) ≡ 8 * wholes (length bs)
length_padded bs = simp (length-append, length-replicate) (omega arith)

module _ (ed : Edition) where
  pub laid_nil : length (laid ed []) ≡ 0
  unfolding laid
  laid_nil = omega arith

  pub laid_num : (g : Sign) (nm : Name) (w v : ℕ) (ts : List Field) → length (laid ed (num g nm w v ∷ ts)) ≡ w + length (laid ed ts)
  unfolding laid
  laid_num g nm w v ts = simp (length-append, length_digits)

  pub laid_flags : (nm : Name) (bs : List ℕ) (ts : List Field) → length (laid ed (flags nm bs ∷ ts)) ≡ 8 * wholes (length bs) + length (laid ed ts)
  unfolding laid
  laid_flags nm bs ts = length-append (padded bs) (laid ed ts) ∙ ap (λ (k : ℕ). k + length (laid ed ts)) (length_padded bs)

  pub laid_bytes : (nm : Name) (bs : List ℕ) (ts : List Field) → length (laid ed (bytes nm bs ∷ ts)) ≡ length bs + length (laid ed ts)
  unfolding laid
  laid_bytes nm bs ts = simp length-append

  pub laid_len : (nm : Name) (v : ℕ) (ts : List Field) → length (laid ed (len nm v ∷ ts)) ≡ 12 + length (laid ed ts)
  unfolding laid
  laid_len nm v ts = simp (length-append, length_digits)

  pub laid_filler : (fs : List ℕ) (ts : List Field) → length (laid ed (filler fs ∷ ts)) ≡ length (added ed fs) + length (laid ed ts)
  unfolding laid
  laid_filler fs ts = simp length-append

-- the kept body is no shorter than the plain one
plain_short : (ts : List Field) → length (plain ts) ≤ length (kept ts)
plain_short [] = omega (arith, laid_nil First, laid_nil Second)
plain_short (num g nm w v ∷ ts) = omega (arith, laid_num First g nm w v ts, laid_num Second g nm w v ts, plain_short ts)
plain_short (flags nm bs ∷ ts) = omega (arith, laid_flags First nm bs ts, laid_flags Second nm bs ts, plain_short ts)
plain_short (bytes nm bs ∷ ts) = omega (arith, laid_bytes First nm bs ts, laid_bytes Second nm bs ts, plain_short ts)
plain_short (len nm v ∷ ts) = omega (arith, laid_len First nm v ts, laid_len Second nm v ts, plain_short ts)
plain_short (filler fs ∷ ts) = omega (arith, laid_filler First fs ts, laid_filler Second fs ts, plain_short ts)

pub laid_short : (ed : Edition) (ts : List Field) → length (laid ed ts) ≤ length (kept ts)
laid_short First ts = plain_short ts
laid_short Second ts = omega arith

-- kept bodies and ledgers are joined as their fields are
pub kept_append : (xs ys : List Field) → kept (xs ++ ys) ≡ kept xs ++ kept ys
unfolding laid
kept_append [] ys = refl
kept_append (num g nm w v ∷ xs) ys = rw (kept_append xs ys, ← append_assoc)
kept_append (flags nm bs ∷ xs) ys = rw (kept_append xs ys, ← append_assoc)
kept_append (bytes nm bs ∷ xs) ys = rw (kept_append xs ys, ← append_assoc)
kept_append (len nm v ∷ xs) ys = rw (kept_append xs ys, ← append_assoc)
kept_append (filler fs ∷ xs) ys = rw (kept_append xs ys, ← append_assoc)

pub ledger_append : (ed : Edition) (xs ys : List Field) → ledger ed (xs ++ ys) ≡ ledger ed xs ++ ledger ed ys
unfolding ledger
ledger_append ed [] ys = refl
ledger_append ed (num g nm w v ∷ xs) ys = rw (ledger_append ed xs ys, ← append_assoc)
ledger_append ed (flags nm bs ∷ xs) ys = rw (ledger_append ed xs ys, ← append_assoc)
ledger_append ed (bytes nm bs ∷ xs) ys = rw (ledger_append ed xs ys, ← append_assoc)
ledger_append ed (len nm v ∷ xs) ys = rw (ledger_append ed xs ys, ← append_assoc)
ledger_append ed (filler fs ∷ xs) ys = rw (ledger_append ed xs ys, ← append_assoc)

-- a plan's fields behind its length: what is within it, and the filler
pub kept_filler : (ts : List Field) (fs : List ℕ) → kept (ts ++ (filler fs ∷ [])) ≡ kept ts ++ fs
unfolding laid
kept_filler ts fs = kept_append ts (filler fs ∷ []) ∙ ap (λ (x : List ℕ). kept ts ++ x) (append-nil fs)

pub ledger_filler : (ed : Edition) (ts : List Field) (fs : List ℕ) → ledger ed (ts ++ (filler fs ∷ [])) ≡ ledger ed ts ++ added ed (counted_bytes fs)
unfolding ledger
ledger_filler ed ts fs = ledger_append ed ts (filler fs ∷ []) ∙ ap (λ (x : List ℕ). ledger ed ts ++ x) (append-nil (added ed (counted_bytes fs)))

pub kept_planned : (nm : Name) (v : ℕ) (ts : List Field) (fs : List ℕ) → length (kept (planned nm v ts fs)) ≡ 12 + (length (kept ts) + length fs)
kept_planned nm v ts fs = laid_len Second nm v (ts ++ (filler fs ∷ [])) ∙ ap (λ (k : ℕ). 12 + k) (ap length (kept_filler ts fs) ∙ length-append (kept ts) fs)

-- at most four bytes more in the second edition, and the filler's
ledger_planned : (ed : Edition) (nm : Name) (v : ℕ) (ts : List Field) (fs : List ℕ) → length (ledger ed (planned nm v ts fs)) ≤ length (ledger ed ts) + 4 + length fs / 8
unfolding ledger
ledger_planned First nm v ts fs = omega (arith, ap length (ledger_filler First ts fs), length-append (ledger First ts) [])
ledger_planned Second nm v ts fs =
    let d : List ℕ = digits 256 2 v in
    let c : List ℕ = digits 256 2 (length fs / 8) in
    let y : List ℕ = bytes_of (length fs / 8) fs in
    let t : List ℕ = ledger Second (ts ++ (filler fs ∷ [])) in
    omega (
      arith,
      length-append d t,
      length_digits 256 2 v,
      ap length (ledger_filler Second ts fs),
      length-append (ledger Second ts) (c ++ y),
      length-append c y,
      length_digits 256 2 (length fs / 8),
      length_bytes (length fs / 8) fs,
    )

-- what good fields lay out are bits
pub kept_below : {l i : Bool} {s : Syntax} {ts : List Field} → Good l i s ts → Below 2 (kept ts)
unfolding laid
kept_below g_end = tt
kept_below (g_field g nm w k v {ts} _ h r) = below_append 2 (digits 2 w v) (kept ts) (digits_below 2 w v (omega arith)) (kept_below r)
kept_below (g_yes r) = kept_below r
kept_below (g_no r) = kept_below r
kept_below (g_need a w _ r) = kept_below r
kept_below (g_most a v m _ r) = kept_below r
kept_below (g_slots nm a m bs {ts} _ h r) =
    let z : ℕ = 8 * wholes (length bs) - length bs in
    below_append 2 (padded bs) (kept ts) (below_append 2 bs (replicate z 0) h (zeros_below z)) (kept_below r)
kept_below (g_plan nm v fs {ts} e r) =
    below_append 2 (digits 2 12 v) (kept (ts ++ (filler fs ∷ []))) (digits_below 2 12 v (omega arith))
    (rw (kept_filler ts fs) (below_append 2 (kept ts) fs (kept_below r) e.below))
kept_below (g_raw nm bs h _) = below_append 2 bs [] h tt

-- ---- at least m bits follow

abbrev pub Least : ℕ → Syntax → Type 0
Least m end = T (leb m 0)
Least m (field g nm w k) = (v : ℕ) → Least (m - w) (k v)
Least m (when t k l) = Least m k × Least m l
Least m (need a w k) = Least m k
Least m (at_most a v j k) = Least m k
Least m (slots nm a j k) = Least (m - 8 * wholes j) k
Least m (plan nm k) = Least (m - 12) k
Least m (raw nm) = T (leb m 0)

pub least_zero : (s : Syntax) → Least 0 s
least_zero end = tt
least_zero (field g nm w k) = λ v. rw zero-sub (least_zero (k v))
least_zero (when t k l) = (least_zero k, least_zero l)
least_zero (need a w k) = least_zero k
least_zero (at_most a v j k) = least_zero k
least_zero (slots nm a j k) = rw zero-sub (least_zero k)
least_zero (plan nm k) = least_zero k
least_zero (raw nm) = tt

pub least : {l i : Bool} {s : Syntax} {ts : List Field} (m : ℕ) → Good l i s ts → Least m s → m ≤ length (kept ts)
least m g_end h = omega (arith, leb→le m 0 h)
least m (g_field g nm w k v {ts} _ _ r) h = omega (arith, laid_num Second g nm w v ts, least (m - w) r (h v))
least m (g_yes r) h = least m r h.0
least m (g_no r) h = least m r h.1
least m (g_need a w _ r) h = least m r h
least m (g_most a v j _ r) h = least m r h
least m (g_slots nm a j bs {ts} e _ r) h = omega (arith, laid_flags Second nm bs ts, ap wholes e, least (m - 8 * wholes j) r h)
least m (g_plan nm v fs {ts} _ r) h = omega (arith, kept_planned nm v ts fs, least (m - 12) r h)
least m (g_raw nm bs _ _) h = omega (arith, leb→le m 0 h)

-- ---- where no plan is, nothing ends past the data

abbrev pub NoPlan : Syntax → Type 0
NoPlan end = Unit {0}
NoPlan (field g nm w k) = (v : ℕ) → NoPlan (k v)
NoPlan (when t k l) = NoPlan k × NoPlan l
NoPlan (need a w k) = NoPlan k
NoPlan (at_most a v j k) = NoPlan k
NoPlan (slots nm a j k) = NoPlan k
NoPlan (plan nm k) = ⊥
NoPlan (raw nm) = Unit {0}

pub planless : {l i : Bool} {s : Syntax} {ts : List Field} (m : Bool) → NoPlan s → Good l i s ts → Good m i s ts
planless m p g_end = g_end
planless m p (g_field g nm w k v h e r) = g_field g nm w k v h e (planless m (p v) r)
planless m p (g_yes r) = g_yes (planless m p.0 r)
planless m p (g_no r) = g_no (planless m p.1 r)
planless m p (g_need a w h r) = g_need a w h (planless m p r)
planless m p (g_most a v j h r) = g_most a v j h (planless m p r)
planless m p (g_slots nm a j bs e h r) = g_slots nm a j bs e h (planless m p r)
planless m p (g_plan nm v fs e r) = absurd p
planless m p (g_raw nm bs h a) = g_raw nm bs h a

-- ---- what is asked of a description

-- Widths are ones that a ledger has; tests are those of extensions; what `need` asks for follows; slots and raw bytes
-- start on a byte and an entry ends on one; no plan stands in a plan; a ledger takes at most a byte for four bits, also
-- with a plan's length and the filler's count.
-- b: the bits before, from a place that starts a byte; c: their bytes in the ledger
abbrev pub Fine : Bool → ℕ → ℕ → Syntax → Type 0
Fine i b c end = (b % 8 ≡ 0) × T (leb (4 * c) b)
Fine i b c (field g nm w k) = T (leb w (widest g)) × ((v : ℕ) → Fine i (b + w) (c + size g w) (k v))
Fine i b c (when t k l) = Fine i b c k × Fine i b c l
Fine i b c (need a w k) = Least w k × Fine i b c k
Fine i b c (at_most a v m k) = (a ≡ ExtensionTooLarge) × (m ≡ 299) × Fine i b c k
Fine i b c (slots nm a m k) = (b % 8 ≡ 0) × Fine i b c k
Fine i b c (plan nm k) = (T i → ⊥) × ((b + 12) % 8 ≡ 0) × Fine true (b + 12) (c + 4) k
Fine i b c (raw nm) = T i × (b % 8 ≡ 0) × T (leb (4 * (c + 2)) b)

-- only the bits past the last byte count, and what is to spare
pub fine_more : (i : Bool) (b c b' c' : ℕ) (s : Syntax) → b % 8 ≡ b' % 8 → 4 * c' + b ≤ 4 * c + b' → Fine i b c s → Fine i b' c' s
fine_more i b c b' c' end e l f = (sym e ∙ f.0, le→leb (4 * c') b' (omega (arith, leb→le (4 * c) b f.1)))
fine_more i b c b' c' (field g nm w k) e l f =
    (f.0, λ v. fine_more i (b + w) (c + size g w) (b' + w) (c' + size g w) (k v) (omega arith) (omega arith) (f.1 v))
fine_more i b c b' c' (when t x y) e l f = (fine_more i b c b' c' x e l f.0, fine_more i b c b' c' y e l f.1)
fine_more i b c b' c' (need a w k) e l f = (f.0, fine_more i b c b' c' k e l f.1)
fine_more i b c b' c' (at_most a v m k) e l f = (f.0, f.1, fine_more i b c b' c' k e l f.2)
fine_more i b c b' c' (slots nm a m k) e l f = (sym e ∙ f.0, fine_more i b c b' c' k e l f.1)
fine_more i b c b' c' (plan nm k) e l f = (f.0, omega (arith, f.1), fine_more true (b + 12) (c + 4) (b' + 12) (c' + 4) k (omega arith) (omega arith) f.2)
fine_more i b c b' c' (raw nm) e l f = (f.0, sym e ∙ f.1, le→leb (4 * (c' + 2)) b' (omega (arith, leb→le (4 * (c + 2)) b f.2)))

-- an entry is whole bytes, and its ledger at most twice as long
pub whole : {l i : Bool} {s : Syntax} {ts : List Field} (ed : Edition) (b c : ℕ) → Good l i s ts → Fine i b c s
    → ((b + length (kept ts)) % 8 ≡ 0) × (4 * (c + length (ledger ed ts)) ≤ b + length (kept ts))
unfolding ledger
whole ed b c g_end f = (omega (arith, f.0, laid_nil Second), omega (arith, leb→le (4 * c) b f.1, laid_nil Second))
whole ed b c (g_field g nm w k v {ts} _ _ r) f =
    let o = whole ed (b + w) (c + size g w) r (f.1 v) in
    (omega (arith, laid_num Second g nm w v ts), simp (length-append, length_digits) (omega (arith, laid_num Second g nm w v ts)))
whole ed b c (g_yes r) f = whole ed b c r f.0
whole ed b c (g_no r) f = whole ed b c r f.1
whole ed b c (g_need a w _ r) f = whole ed b c r f.1
whole ed b c (g_most a v m _ r) f = whole ed b c r f.2
whole ed b c (g_slots nm a m bs {ts} _ _ r) f =
    let o = whole ed b c r f.1 in
    (omega (arith, laid_flags Second nm bs ts), simp (length-append, length_bytes) (omega (arith, laid_flags Second nm bs ts)))
whole ed b c (g_plan nm v fs {ts} e r) f =
    let o = whole ed (b + 12) (c + 4) r f.2 in
    let k = kept_planned nm v ts fs in
    (omega (arith, e.whole), omega (arith, e.whole, ledger_planned ed nm v ts fs))
whole ed b c (g_raw nm bs _ a) f =
    let p : length (kept (bytes nm bs ∷ [])) ≡ length bs + 0 = laid_bytes Second nm bs [] ∙ ap (λ (k : ℕ). length bs + k) (laid_nil Second) in
    (omega (arith, f.1), simp (length-append, length_digits, length_bytes) (omega (arith, leb→le (4 * (c + 2)) b f.2)))

-- ---- a description before it had its tests is as fine

pub least_before : (m : ℕ) (s : Syntax) → Least m s → Least m (before s)
least_before m end h = h
least_before m (field g nm w k) h = λ v. least_before (m - w) (k v) (h v)
least_before m (when t k l) h = (least_before m k h.0, least_before m l h.1)
least_before m (need a w k) h = least_before m k h
least_before m (at_most a v j k) h = least_before m k h
least_before m (slots nm a j k) h = least_before (m - 8 * wholes j) k h
least_before m (plan nm k) h = least_before (m - 12) k h
least_before m (raw nm) h = h

pub fine_before : (i : Bool) (b c : ℕ) (s : Syntax) → Fine i b c s → Fine i b c (before s)
fine_before i b c end f = f
fine_before i b c (field g nm w k) f = (f.0, λ v. fine_before i (b + w) (c + size g w) (k v) (f.1 v))
fine_before i b c (when t k l) f = (fine_before i b c k f.0, fine_before i b c l f.1)
fine_before i b c (need a w k) f = (least_before w k f.0, fine_before i b c k f.1)
fine_before i b c (at_most a v m k) f = fine_before i b c k f.2
fine_before i b c (slots nm a m k) f = (f.0, fine_before i b c k f.1)
fine_before i b c (plan nm k) f = (f.0, f.1, fine_before true (b + 12) (c + 4) k f.2)
fine_before i b c (raw nm) f = f

pub planless_before : (s : Syntax) → NoPlan s → NoPlan (before s)
planless_before end p = p
planless_before (field g nm w k) p = λ v. planless_before (k v) (p v)
planless_before (when t k l) p = (planless_before k p.0, planless_before l p.1)
planless_before (need a w k) p = planless_before k p
planless_before (at_most a v m k) p = planless_before k p
planless_before (slots nm a m k) p = planless_before k p
planless_before (plan nm k) p = p
planless_before (raw nm) p = p
