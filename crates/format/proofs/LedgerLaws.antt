-- Reading a ledger's bytes: what is read is good and is written as it stood, and good fields written are read again.
-- Assumes nothing.
use mathlib.Core.Path.{◌≡◌, refl, sym, ap, ◌∙◌}
use mathlib.Core.Bool.{Bool, true, false, cond}
use mathlib.Core.List.{List, [], ◌∷◌, ◌++◌, append_assoc, append-nil}
use Prim.Native.Nat.{ℕ, ◌+◌, ◌*◌, ◌-◌, ◌/◌, ◌%◌, ◌^◌, ◌<◌, ◌≤◌}
use native.Mathlib.Nat.{lt_of_lt_of_le, mod-lt, mod-eq_of_lt, add-mul-mod_self_right}
use native.Mathlib.Omega.{arith}
use lib.Dec.{T, leb, ltb, eqb, leb→le}
use lib.ListN.{length, take, drop, replicate, length-drop, take-append-drop}
use lib.Pow.{pow_mono, pow_pos, high_ones}
use lib.Seq.{take_at, drop_at, length-take-le, drop-append_seam, take-append_seam}
use borrow.Author.Tests.{leb-true, eq-eqb, eqb-true}
use Rattle.std.proofs.lemmas.Bool.{cond_both}
use Rattle.format.specs.Digits.{digits, value, Below, bits_of, bytes_of}
use Rattle.format.specs.Syntax.{Name, Sign, unsigned, signed, Syntax, end, field, when, need, at_most, slots, plan, raw, before, Field, num, flags, bytes, Parse, got, refused, and_then, push}
use Rattle.format.specs.declared.Edition.{Edition}
use Rattle.format.specs.declared.Edition.TheVariants.{First, Second}
use Rattle.format.specs.Body.{wholes, planned, padded, plain, kept}
use Rattle.format.specs.Ledger.{size, widened, counted_bytes, ledger, grant, read_counted_bytes, leaves, read_filler, read_ledger}
use Rattle.format.specs.declared.Fault.TheVariants.{PlanLengthMisfit}
use Rattle.format.proofs.DigitLaws.{length_digits, value_digits, digits_take, below_take, below_drop, below_append, bits_bytes, length_bytes, bytes_bits, length_bits, bits_below, zeros_below, value_zeros, value_zero, has_at, back_of}
use Rattle.format.proofs.ParseLaws.{cond_got, then_got, push_got, grant_got}
use Rattle.format.proofs.Good
use Rattle.format.proofs.Forms.{form, form_2, flat_kept, form_flat, form_planned, exact_ending}
use Rattle.format.proofs.BodyLaws.{small}

-- ---- a field's number in its bytes

-- the bytes have room for every number of the field
size_fits : (w : ℕ) → T (leb w 64) → 2 ^ w ≤ 256 ^ size unsigned w
size_fits w h =
    cond_both (leb w 8) 1 _ room (λ e. pow_mono {j = 8} (leb-true w 8 e))
    (λ _. cond_both (leb w 16) 2 _ room (λ e. pow_mono {j = 16} (leb-true w 16 e))
    (λ _. cond_both (leb w 32) 4 8 room (λ e. pow_mono {j = 32} (leb-true w 32 e)) (λ _. pow_mono {j = 64} (leb→le w 64 h))))
  where
    room : ℕ → Type 0
    room k = 2 ^ w ≤ 256 ^ k

pub widened_lt : (g : Sign) (w v : ℕ) → T (leb w (Good.widest g)) → v < 2 ^ w → widened g w v < 256 ^ size g w
widened_lt unsigned w v h l = lt_of_lt_of_le l (size_fits w h)
widened_lt signed w v h l = go (ltb v (2 ^ (w - 1)))
  where
    p : 2 ^ w ≤ 2 ^ 32
    p = pow_mono {i = w} {j = 32} (leb→le w 32 h)

    go : (t : Bool) → cond t v (v + (2 ^ 32 - 2 ^ w)) < 256 ^ 4
    go true = omega (arith, p)
    go false = omega (arith, p)

-- its low bits are the field's
pub widened_mod : (g : Sign) (w v : ℕ) → T (leb w (Good.widest g)) → v < 2 ^ w → widened g w v % 2 ^ w ≡ v
widened_mod unsigned w v h l = mod-eq_of_lt l
widened_mod signed w v h l = go (ltb v (2 ^ (w - 1)))
  where
    s : 32 - w + w ≡ 32
    s = omega (arith, leb→le w 32 h)

    p : 2 ^ 32 - 2 ^ w ≡ (2 ^ (32 - w) - 1) * 2 ^ w
    p = rw s at (high_ones (32 - w) w)

    go : (t : Bool) → cond t v (v + (2 ^ 32 - 2 ^ w)) % 2 ^ w ≡ v
    go true = mod-eq_of_lt l
    go false = rw p (add-mul-mod_self_right v (2 ^ (32 - w) - 1) (2 ^ w) ∙ mod-eq_of_lt l)

-- ---- bytes behind their count

pub count_again : (n : ℕ) (bs rest : List ℕ) (k : List ℕ → List ℕ → Parse (List Field)) → Below 2 bs → length bs % 8 ≡ 0 → length bs / 8 < 256 ^ 2
    → read_counted_bytes n (counted_bytes bs ++ rest) k ≡ k bs rest
count_again n bs rest k h a m =
    let q : ℕ = length bs / 8 in
    let d : List ℕ = digits 256 2 q in
    let y : List ℕ = bytes_of q bs in
    let ld : length d ≡ 2 = length_digits 256 2 q in
    let ly : length y ≡ q = length_bytes q bs in
    let b : bits_of y ≡ bs = bits_bytes q bs (omega arith) h in
    rw (
      append_assoc d y rest,
      take_at d (y ++ rest) 2 ld,
      drop_at d (y ++ rest) 2 ld,
      has_at 2 d (y ++ rest) ld,
      value_digits 256 2 q (omega arith) m,
      take_at y rest q ly,
      drop_at y rest q ly,
      has_at q y rest ly,
      b,
    )

-- the bits of the bytes, and what follows them
pub record BytesRead (bs : List ℕ) (k : List ℕ → List ℕ → Parse (List Field)) (p : Parse (List Field)) : Type 0 where
  pub what : List ℕ
  pub rest : List ℕ
  pub goes : k what rest ≡ p
  pub back : counted_bytes what ++ rest ≡ bs
  pub bits : Below 2 what
  pub whole : length what % 8 ≡ 0
  pub below : Below 256 rest

pub bytes_got : {ts : List Field} {rest : List ℕ} (n : ℕ) (bs : List ℕ) (k : List ℕ → List ℕ → Parse (List Field)) → Below 256 bs → read_counted_bytes n bs k ≡ got ts rest → BytesRead bs k (got ts rest)
bytes_got n bs k h e =
    let q : ℕ = value 256 (take 2 bs) in
    let after : List ℕ = drop 2 bs in
    let ys : List ℕ = take q after in
    let p = grant_got n 2 true bs (grant n q true after (k (bits_of ys) (drop q after))) e in
    let o = grant_got n q true after (k (bits_of ys) (drop q after)) p.2 in
    let ha : Below 256 after = below_drop 256 2 bs h in
    let ly : length ys ≡ q = length-take-le q after o.0 in
    let lb : length (bits_of ys) ≡ 8 * length ys = length_bits ys in
    let l8 : length (bits_of ys) / 8 ≡ q = omega arith in
    let y : bytes_of (length ys) (bits_of ys ++ []) ≡ ys = bytes_bits ys [] (below_take 256 q after ha) in
    let y' : bytes_of q (bits_of ys) ≡ ys = rw (append-nil (bits_of ys), ly) at y in
    record {
      what = bits_of ys;
      rest = drop q after;
      goes = o.2;
      back = rw (l8, y') (back_of 2 (digits 256 2 q) ys (drop q after) bs (digits_take 256 2 bs h p.0) (take-append-drop q after));
      bits = bits_below ys;
      whole = omega arith;
      below = below_drop 256 q after ha;
    }

-- a plan's filler
filler_again : (l : Bool) (n : ℕ) (nm : Name) (v : ℕ) (ts : List Field) (fs rest : List ℕ) → Good.Ending l v fs ts → length fs / 8 < 256 ^ 2
    → read_filler l n nm v ts (counted_bytes fs ++ rest) ≡ got (planned nm v ts fs) rest
filler_again l n nm v ts fs rest e m =
    count_again n fs rest (λ gs r. cond (leaves l v ts (length gs)) (got (planned nm v ts gs) r) (refused PlanLengthMisfit (n - length (drop 2 (counted_bytes fs ++ rest))) 0)) e.below e.whole m
    ∙ rw (Good.leaves_true e.leaves)

-- ---- good fields written are read again, as far as the edition has them

module _ (n : ℕ) where
  relet_1 : {l : Bool} {k : Syntax} {ts : List Field} (nm : Name) (v : ℕ) (fs rest : List ℕ) → Good.Good l true k ts
      → read_ledger First l n k (ledger First ts ++ rest) ≡ got (form First ts) rest
      → read_ledger First l n (plan nm k) (ledger First (planned nm v ts fs) ++ rest) ≡ got (form First (planned nm v ts fs)) rest
  unfolding read_ledger ledger
  relet_1 {ts = ts} nm v fs rest r q =
      rw (Good.ledger_filler First ts fs, append-nil (ledger First ts), q ∙ ap (λ (us : List Field). got us rest) (form_flat First r), form_planned First nm v fs r, flat_kept tt r)

  relet_2 : {l : Bool} (k : Syntax) {ts : List Field} (nm : Name) (v : ℕ) (fs rest : List ℕ) → Good.Ending l v fs ts → length (kept (planned nm v ts fs)) ≤ 32768
      → ((r : List ℕ) → read_ledger Second l n k (ledger Second ts ++ r) ≡ got (form Second ts) r)
      → read_ledger Second l n (plan nm k) (ledger Second (planned nm v ts fs) ++ rest) ≡ got (form Second (planned nm v ts fs)) rest
  unfolding read_ledger ledger
  relet_2 {l} k {ts} nm v fs rest e m q =
      let d : List ℕ = digits 256 2 v in
      let ld : length d ≡ 2 = length_digits 256 2 v in
      let t : length (kept (planned nm v ts fs)) ≡ 12 + (length (kept ts) + length fs) = Good.kept_planned nm v ts fs in
      let hv : v < 2 ^ 12 = small v (length (kept ts) + length fs) e.wide (omega arith) in
      let more : List ℕ = counted_bytes fs ++ rest in
      let after : List ℕ = ledger Second ts ++ more in
      rw (
        Good.ledger_filler Second ts fs,
        append_assoc d (ledger Second ts ++ counted_bytes fs) rest,
        append_assoc (ledger Second ts) (counted_bytes fs) rest,
        take_at d after 2 ld,
        drop_at d after 2 ld,
        has_at 2 d after ld,
        value_digits 256 2 v (omega arith) (omega arith),
        mod-eq_of_lt hv,
        eq-eqb v v refl,
        q more ∙ ap (λ (us : List Field). got us more) (form_2 ts),
        form_2 (planned nm v ts fs),
      )
      (filler_again l n nm v ts fs rest e (omega arith))

  relet_plan : {l : Bool} {k : Syntax} {ts : List Field} (ed : Edition) (nm : Name) (v : ℕ) (fs rest : List ℕ) → Good.Ending l v fs ts → Good.Good l true k ts
      → length (kept (planned nm v ts fs)) ≤ 32768 → ((r : List ℕ) → read_ledger ed l n k (ledger ed ts ++ r) ≡ got (form ed ts) r)
      → read_ledger ed l n (plan nm k) (ledger ed (planned nm v ts fs) ++ rest) ≡ got (form ed (planned nm v ts fs)) rest
  relet_plan First nm v fs rest e r m q = relet_1 nm v fs rest r (q rest)
  relet_plan {k = k} Second nm v fs rest e r m q = relet_2 k nm v fs rest e m q

module _ (ed : Edition) (n : ℕ) where
  pub relet : {l i : Bool} {s : Syntax} {ts : List Field} (rest : List ℕ) → Good.Good l i s ts → length (kept ts) ≤ 32768
      → read_ledger ed l n s (ledger ed ts ++ rest) ≡ got (form ed ts) rest
  unfolding read_ledger ledger form
  relet rest Good.g_end m = refl
  relet rest (Good.g_field g nm w k v {ts} hw h r) m =
      let q : ℕ = size g w in
      let x : ℕ = widened g w v in
      let d : List ℕ = digits 256 q x in
      let l : length d ≡ q = length_digits 256 q x in
      let t : length (kept (num g nm w v ∷ ts)) ≡ w + length (kept ts) = Good.laid_num Second g nm w v ts in
      rw (
        append_assoc d (ledger ed ts) rest,
        take_at d (ledger ed ts ++ rest) q l,
        drop_at d (ledger ed ts ++ rest) q l,
        has_at q d (ledger ed ts ++ rest) l,
        value_digits 256 q x (omega arith) (widened_lt g w v hw h),
        widened_mod g w v hw h,
        eq-eqb x x refl,
        relet rest r (omega (arith, t, m)),
      )
  relet rest (Good.g_yes r) m = relet rest r m
  relet rest (Good.g_no r) m = relet rest r m
  relet rest (Good.g_need a w h r) m = relet rest r m
  relet rest (Good.g_most a v j h r) m = relet rest r m
  relet rest (Good.g_slots nm a j bs {ts} c h r) m =
      let q : ℕ = wholes (length bs) in
      let z : List ℕ = replicate (8 * q - length bs) 0 in
      let y : List ℕ = bytes_of q (bs ++ z) in
      let ly : length y ≡ q = length_bytes q (bs ++ z) in
      let b : bits_of y ≡ bs ++ z = bits_bytes q (bs ++ z) (Good.length_padded bs) (below_append 2 bs z h (zeros_below (8 * q - length bs))) in
      let t : length (kept (flags nm bs ∷ ts)) ≡ 8 * q + length (kept ts) = Good.laid_flags Second nm bs ts in
      rw (
        ← c,
        append_assoc y (ledger ed ts) rest,
        take_at y (ledger ed ts ++ rest) q ly,
        drop_at y (ledger ed ts ++ rest) q ly,
        has_at q y (ledger ed ts ++ rest) ly,
        b,
        take-append_seam bs z,
        drop-append_seam bs z,
        value_zeros (8 * q - length bs),
        relet rest r (omega (arith, t, m)),
      )
  relet rest (Good.g_plan nm v fs {k} {ts} e r) m =
      let t : length (kept (planned nm v ts fs)) ≡ 12 + (length (kept ts) + length fs) = Good.kept_planned nm v ts fs in
      relet_plan n ed nm v fs rest e r m (λ o. relet o r (omega arith))
  relet rest (Good.g_raw nm bs h a) m =
      rw (append-nil (counted_bytes bs)) (count_again n bs rest (λ xs r. got (bytes nm xs ∷ []) r) h a (omega (arith, m, Good.laid_bytes Second nm bs [])))

-- ---- tests make no difference to the reading

pub read_before : (ed : Edition) (l : Bool) (n : ℕ) (s : Syntax) (bs : List ℕ) → read_ledger ed l n (before s) bs ≡ read_ledger ed l n s bs
unfolding read_ledger
read_before ed l n end bs = refl
read_before ed l n (field g nm w k) bs =
    let x : ℕ = value 256 (take (size g w) bs) in
    let v : ℕ = x % 2 ^ w in
    ap (λ (p : Parse (List Field)). grant n (size g w) (eqb (widened g w v) x) bs (push (num g nm w v) p)) (read_before ed l n (k v) (drop (size g w) bs))
read_before ed l n (when true y z) bs = read_before ed l n y bs
read_before ed l n (when false y z) bs = read_before ed l n z bs
read_before ed l n (need a w k) bs = read_before ed l n k bs
read_before ed l n (at_most a v m k) bs = read_before ed l n k bs
read_before ed l n (slots nm a m k) bs =
    let packed : List ℕ = bits_of (take (wholes m) bs) in
    ap (λ (p : Parse (List Field)). grant n (wholes m) (eqb (value 2 (drop m packed)) 0) bs (push (flags nm (take m packed)) p)) (read_before ed l n k (drop (wholes m) bs))
read_before First l n (plan nm k) bs =
    ap (λ (p : Parse (List Field)). and_then p (λ ts rest. got (planned nm (length (plain ts) / 8) ts []) rest)) (read_before First l n k bs)
read_before Second l n (plan nm k) bs =
    let x : ℕ = value 256 (take 2 bs) in
    let v : ℕ = x % 2 ^ 12 in
    ap (λ (p : Parse (List Field)). grant n 2 (eqb v x) bs (and_then p (λ ts rest. read_filler l n nm v ts rest))) (read_before Second l n k (drop 2 bs))
read_before ed l n (raw nm) bs = refl

-- ---- what is read is good but for the tests, and was written so

pub record Found (ed : Edition) (l i : Bool) (s : Syntax) (bs : List ℕ) (ts : List Field) (rest : List ℕ) : Type 0 where
  pub good : Good.Good l i s ts
  pub same : form ed ts ≡ ts
  pub back : ledger ed ts ++ rest ≡ bs
  pub below : Below 256 rest

-- unused slot bits are zero: the slots and their padding are the packed bytes
slots_back : (m : ℕ) (ys : List ℕ) → Below 256 ys → length ys ≡ wholes m → value 2 (drop m (bits_of ys)) ≡ 0
    → (length (take m (bits_of ys)) ≡ m) × (bytes_of (wholes m) (take m (bits_of ys) ++ replicate (8 * wholes m - m) 0) ≡ ys)
slots_back m ys h l z =
    let lb : length (bits_of ys) ≡ 8 * wholes m = rw l at (length_bits ys) in
    let lm : length (take m (bits_of ys)) ≡ m = length-take-le m (bits_of ys) (omega arith) in
    let d : drop m (bits_of ys) ≡ replicate (length (drop m (bits_of ys))) 0 = value_zero (drop m (bits_of ys)) z in
    let ld : length (drop m (bits_of ys)) ≡ 8 * wholes m - m = rw lb at (length-drop m (bits_of ys)) in
    let d' : drop m (bits_of ys) ≡ replicate (8 * wholes m - m) 0 = d ∙ ap (λ (j : ℕ). replicate j 0) ld in
    let y : bytes_of (length ys) (bits_of ys ++ []) ≡ ys = bytes_bits ys [] h in
    (lm, rw (← d', take-append-drop m (bits_of ys)) (rw (append-nil (bits_of ys), l) at y))

module _ (n : ℕ) where
  -- a plan's fields behind its length in the second edition
  filler_got : {us : List Field} {rest : List ℕ} (l : Bool) (nm : Name) (v : ℕ) (ts : List Field) (bs : List ℕ) → v < 2 ^ 12 → length (kept ts) % 8 ≡ 0 → Below 256 bs → read_filler l n nm v ts bs ≡ got us rest
      → (fs : List ℕ) × (us ≡ planned nm v ts fs) × Good.Ending l v fs ts × (counted_bytes fs ++ rest ≡ bs) × Below 256 rest
  filler_got {us} {rest} l nm v ts bs hv w8 h e =
      let k : List ℕ → List ℕ → Parse (List Field) = λ gs r. cond (leaves l v ts (length gs)) (got (planned nm v ts gs) r) (refused PlanLengthMisfit (n - length (drop 2 bs)) 0) in
      let o = bytes_got n bs k h e in
      let p = cond_got (leaves l v ts (length o.what)) _ _ _ _ o.goes in
      let q : got (planned nm v ts o.what) o.rest ≡ got us rest = p.1 in
      let z : o.rest ≡ rest = cc in
      let a : Good.Ending l v o.what ts = record {
        fields = w8;
        whole = o.whole;
        below = o.bits;
        wide = λ g. absurd (omega arith);
        leaves = Good.leaves_got l v ts (length o.what) p.0;
      } in
      (o.what, cc, a, ap (λ (x : List ℕ). counted_bytes o.what ++ x) (sym z) ∙ o.back, rw z at o.below)

  found_1 : {ts us : List Field} {rest bs : List ℕ} (l i : Bool) (nm : Name) (k : Syntax) → (T i → ⊥) → length (kept us) % 8 ≡ 0 → ts ≡ planned nm (length (plain us) / 8) us []
      → Found First l true k bs us rest → Found First l i (plan nm k) bs ts rest
  unfolding ledger
  found_1 {ts} {us} {rest} l i nm k ni w8 e r =
      let z : plain us ≡ kept us = flat_kept tt r.good in
      rw (e, z) (record {
        good = Good.good_plan nm i (length (kept us) / 8) [] ni (exact_ending us w8) r.good;
        same = form_planned First nm (length (kept us) / 8) [] r.good;
        back = rw (Good.ledger_filler First us [], append-nil (ledger First us)) r.back;
        below = r.below;
      })

  found_2 : {ts us : List Field} {rest mid bs : List ℕ} (l i : Bool) (nm : Name) (k : Syntax) (v : ℕ) (fs : List ℕ) → (T i → ⊥) → ts ≡ planned nm v us fs → Good.Ending l v fs us
      → counted_bytes fs ++ rest ≡ mid → Below 256 rest → digits 256 2 v ≡ take 2 bs → Found Second l true k (drop 2 bs) us mid → Found Second l i (plan nm k) bs ts rest
  unfolding ledger
  found_2 {ts} {us} {rest} {mid} {bs} l i nm k v fs ni e n' c h d r =
      rw e (record {
        good = Good.good_plan nm i v fs ni n' r.good;
        same = form_2 (planned nm v us fs);
        back = rw (Good.ledger_filler Second us fs)
            (back_of 2 (digits 256 2 v) (ledger Second us ++ counted_bytes fs) rest bs d (append_assoc (ledger Second us) (counted_bytes fs) rest ∙ ap (λ (x : List ℕ). ledger Second us ++ x) c ∙ r.back));
        below = h;
      })

  pub found : (ed : Edition) (l i : Bool) (b c : ℕ) (s : Syntax) (bs : List ℕ) {ts : List Field} {rest : List ℕ} → Good.Fine i b c s → Below 256 bs
      → read_ledger ed l n s bs ≡ got ts rest → Found ed l i (before s) bs ts rest
  unfolding read_ledger ledger form
  found ed l i b c end bs {ts} {rest} f h e =
      let q1 : ts ≡ [] = cc in
      let q2 : rest ≡ bs = cc in
      rw (q1, q2) (record { good = Good.g_end; same = refl; back = refl; below = h })
  found ed l i b c (field g nm w k) bs {ts} {rest} f h e =
      let q : ℕ = size g w in
      let x : ℕ = value 256 (take q bs) in
      let v : ℕ = x % 2 ^ w in
      let p = grant_got n q (eqb (widened g w v) x) bs (push (num g nm w v) (read_ledger ed l n (k v) (drop q bs))) e in
      let o = push_got (num g nm w v) (read_ledger ed l n (k v) (drop q bs)) p.2 in
      let r : Found ed l i (before (k v)) (drop q bs) o.0 rest = found ed l i (b + w) (c + q) (k v) (drop q bs) (f.1 v) (below_drop 256 q bs h) o.1 in
      rw o.2 (record {
        good = Good.g_field g nm w (λ u. before (k u)) v f.0 (mod-lt x (pow_pos w)) r.good;
        same = ap (λ (us : List Field). num g nm w v ∷ us) r.same;
        back = back_of q (digits 256 q (widened g w v)) (ledger ed o.0) rest bs (ap (digits 256 q) (eqb-true (widened g w v) x p.1) ∙ digits_take 256 q bs h p.0) r.back;
        below = r.below;
      })
  found ed l i b c (when true y z) bs f h e = let r = found ed l i b c y bs f.0 h e in record { good = Good.g_yes r.good; same = r.same; back = r.back; below = r.below }
  found ed l i b c (when false y z) bs f h e = let r = found ed l i b c z bs f.1 h e in record { good = Good.g_no r.good; same = r.same; back = r.back; below = r.below }
  found ed l i b c (need a w k) bs f h e =
      let r = found ed l i b c k bs f.1 h e in
      record { good = Good.g_need a w (Good.least w r.good (Good.least_before w k f.0)) r.good; same = r.same; back = r.back; below = r.below }
  found ed l i b c (at_most a v m k) bs f h e = found ed l i b c k bs f.2 h e
  found ed l i b c (slots nm a m k) bs {ts} {rest} f h e =
      let q : ℕ = wholes m in
      let ys : List ℕ = take q bs in
      let fs : List ℕ = take m (bits_of ys) in
      let p = grant_got n q (eqb (value 2 (drop m (bits_of ys))) 0) bs (push (flags nm fs) (read_ledger ed l n k (drop q bs))) e in
      let o = push_got (flags nm fs) (read_ledger ed l n k (drop q bs)) p.2 in
      let r : Found ed l i (before k) (drop q bs) o.0 rest = found ed l i b c k (drop q bs) f.1 (below_drop 256 q bs h) o.1 in
      let s : (length fs ≡ m) × (bytes_of q (fs ++ replicate (8 * q - m) 0) ≡ ys) =
      slots_back m ys (below_take 256 q bs h) (length-take-le q bs p.0) (eqb-true (value 2 (drop m (bits_of ys))) 0 p.1) in
      rw o.2 (record {
        good = Good.g_slots nm a m fs s.0 (below_take 2 m (bits_of ys) (bits_below ys)) r.good;
        same = ap (λ (us : List Field). flags nm fs ∷ us) r.same;
        back = back_of q (bytes_of (wholes (length fs)) (padded fs)) (ledger ed o.0) rest bs (rw s.0 s.1) r.back;
        below = r.below;
      })
  found First l i b c (plan nm k) bs {ts} {rest} f h e =
      let o = then_got (read_ledger First l n k bs) (λ us r. got (planned nm (length (plain us) / 8) us []) r) e in
      let us : List Field = o.0 in
      let q : got (planned nm (length (plain us) / 8) us []) o.1 ≡ got ts rest = o.3 in
      let z : o.1 ≡ rest = cc in
      let r : Found First l true (before k) bs us rest = found First l true (b + 12) (c + 4) k bs f.2 h (rw z at o.2) in
      found_1 l i nm (before k) f.0 (omega (arith, f.1, Good.whole First (b + 12) (c + 4) r.good (Good.fine_before true (b + 12) (c + 4) k f.2))) (cc) r
  found Second l i b c (plan nm k) bs {ts} {rest} f h e =
      let x : ℕ = value 256 (take 2 bs) in
      let v : ℕ = x % 2 ^ 12 in
      let go_on : List Field → List ℕ → Parse (List Field) = λ us r. read_filler l n nm v us r in
      let p = grant_got n 2 (eqb v x) bs (and_then (read_ledger Second l n k (drop 2 bs)) go_on) e in
      let o = then_got (read_ledger Second l n k (drop 2 bs)) go_on p.2 in
      let us : List Field = o.0 in
      let r : Found Second l true (before k) (drop 2 bs) us o.1 = found Second l true (b + 12) (c + 4) k (drop 2 bs) f.2 (below_drop 256 2 bs h) o.2 in
      let y = filler_got l nm v us o.1 (mod-lt x (pow_pos 12)) (omega (arith, f.1, Good.whole Second (b + 12) (c + 4) r.good (Good.fine_before true (b + 12) (c + 4) k f.2))) r.below o.3 in
      let d : digits 256 2 v ≡ take 2 bs = ap (digits 256 2) (eqb-true v x p.1) ∙ digits_take 256 2 bs h p.0 in
      found_2 l i nm (before k) v y.0 f.0 y.1 y.2 y.3 y.4 d r
  found ed l i b c (raw nm) bs {ts} {rest} f h e =
      let o = bytes_got n bs (λ xs r. got (bytes nm xs ∷ []) r) h e in
      let z : got (bytes nm o.what ∷ []) o.rest ≡ got ts rest = o.goes in
      let q1 : ts ≡ bytes nm o.what ∷ [] = cc in
      let q2 : o.rest ≡ rest = cc in
      rw q1 (record {
        good = Good.good_raw nm i o.what f.0 o.bits o.whole;
        same = refl;
        back = rw (append-nil (counted_bytes o.what)) (ap (λ (x : List ℕ). counted_bytes o.what ++ x) (sym q2) ∙ o.back);
        below = rw q2 at o.below;
      })
