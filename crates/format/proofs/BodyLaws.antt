-- Reading a body's bits: what is read is good and no longer than what it was read from, and good fields laid out are read again.
-- Assumes nothing.
use mathlib.Core.Path.{◌≡◌, refl, sym, ap, ◌∙◌}
use mathlib.Core.Bool.{Bool, true, false, cond, true≢false}
use mathlib.Core.Logic.{⊎_elim}
use mathlib.Core.List.{List, [], ◌∷◌, ◌++◌, append_assoc, append-nil}
use Prim.Native.Nat.{ℕ, ◌+◌, ◌*◌, ◌-◌, ◌%◌, ◌^◌, ◌<◌, ◌≤◌}
use native.Mathlib.Omega.{arith}
use lib.Dec.{T, leb, eqb}
use lib.ListN.{length, take, drop, replicate, length-append, length-take, length-drop, drop_of_length-le, take-append-drop}
use lib.Seq.{take_at, drop_at, take_all, length-take-le, drop-append_seam, take-append_seam}
use borrow.Author.Tests.{le-leb, lt-leb, leb-true, leb-false, eq-eqb, eqb-true}
use Rattle.std.proofs.lemmas.Bool.{cases_lt, cond_both}
use Rattle.format.specs.Digits.{digits, value, Below}
use Rattle.format.specs.Syntax.{Name, Syntax, end, field, when, need, at_most, slots, plan, raw, Field, num, flags, bytes, got}
use Rattle.format.specs.declared.Edition.TheVariants.{Second}
use Rattle.format.specs.Body.{wholes, planned, read_body, laid, kept}
use Rattle.format.specs.Ledger.{size, raw_left}
use Rattle.format.proofs.DigitLaws.{length_digits, value_digits, value_lt, below_take, below_drop, has_at}
use Rattle.format.proofs.ParseLaws.{cond_got, push_got, close_got}
use Rattle.format.proofs.Good

-- ---- good fields laid out are read again

-- a plan is at most 4095 bytes
pub small : (v m : ℕ) → (2 ^ 12 ≤ v → 8 * v ≡ m) → 12 + m ≤ 32768 → v < 2 ^ 12
small v m w h = ⊎_elim (λ l. l) (λ g. absurd (omega (arith, w g))) (cases_lt v (2 ^ 12))

-- raw bytes are those that the reading takes
raw_same : (n e : ℕ) (bs rest : List ℕ) → length bs + length rest ≤ n → n - length rest ≤ e → raw_left (leb e n) (e - (n - length rest)) (bytes "" bs ∷ []) ≡ true
    → cond (leb e n) (e - (n - length (bs ++ rest))) 0 ≡ length bs
raw_same n e bs rest h p q = go (leb e n) refl q
  where
    go : (t : Bool) → leb e n ≡ t → cond t (eqb (e - (n - length rest)) 0) (eqb (length bs) 0) ≡ true → cond t (e - (n - length (bs ++ rest))) 0 ≡ length bs
    go true l z = omega (arith, eqb-true (e - (n - length rest)) 0 z, length-append bs rest)
    go false l z = sym (eqb-true (length bs) 0 z)

-- where a plan ends, at e, behind its fields us and its filler
record Closed (n e : ℕ) (us : List Field) (fs rest : List ℕ) : Type 0 where
  passes : n - length (fs ++ rest) ≤ e
  takes : take (e - (n - length (fs ++ rest))) (fs ++ rest) ≡ fs
  drops : drop (e - (n - length (fs ++ rest))) (fs ++ rest) ≡ rest
  raws : raw_left (leb e n) (e - (n - length (fs ++ rest))) us ≡ true

closed : {l : Bool} {v : ℕ} {us : List Field} (n e : ℕ) (fs rest : List ℕ) → Good.Leaves l v us (length fs) → (l ≡ true → rest ≡ [])
    → length (kept us) + (length fs + length rest) ≤ n → e ≡ n - (length (kept us) + (length fs + length rest)) + 8 * v → Closed n e us fs rest
closed n e fs rest (Good.within q r) last h x =
    let la : length (fs ++ rest) ≡ length fs + length rest = length-append fs rest in
    let d : e - (n - length (fs ++ rest)) ≡ length fs = omega arith in
    let le : leb e n ≡ true = le-leb e n (omega arith) in
    record { passes = omega arith; takes = rw d (take-append_seam fs rest); drops = rw d (drop-append_seam fs rest); raws = rw (d, le) r }
closed {us = us} n e fs rest (Good.past t q r) last h x =
    let z : rest ≡ [] = last t in
    let lz : length rest ≡ 0 = ap length z in
    let la : length (fs ++ rest) ≡ length fs + length rest = length-append fs rest in
    let d : ℕ = e - (n - length (fs ++ rest)) in
    let ld : length fs ≤ d = omega arith in
    let same : fs ++ rest ≡ fs = ap (λ (y : List ℕ). fs ++ y) z ∙ append-nil fs in
    record {
      passes = omega arith;
      takes = ap (take d) same ∙ take_all d fs ld;
      drops = ap (drop d) same ∙ drop_of_length-le fs {i = d} ld ∙ sym z;
      raws = rw (lt-leb e n (omega arith)) (Good.raw_past d (length fs) us ∙ r);
    }

module _ (n : ℕ) where
  -- l: nothing follows, if the fields may be a plan that ends past the data; within a plan, its end is not passed and
  -- its raw bytes are up to it
  pub reread : {l i : Bool} {s : Syntax} {ts : List Field} (e : ℕ) (rest : List ℕ) → Good.Good l i s ts
      → length (kept ts) ≤ 32768 → length (kept ts) + length rest ≤ n → ((T i → ⊥) → l ≡ true → rest ≡ [])
      → (T i → (n - length rest ≤ e) × (raw_left (leb e n) (e - (n - length rest)) ts ≡ true))
      → read_body n e s (kept ts ++ rest) ≡ got ts rest
  unfolding read_body laid
  reread e rest Good.g_end m f y x = refl
  reread e rest (Good.g_field g nm w k v {ts} _ h r) m f y x =
      let d : List ℕ = digits 2 w v in
      let l : length d ≡ w = length_digits 2 w v in
      let t : length (kept (num g nm w v ∷ ts)) ≡ w + length (kept ts) = Good.laid_num Second g nm w v ts in
      rw (
        append_assoc d (kept ts) rest,
        take_at d (kept ts ++ rest) w l,
        drop_at d (kept ts ++ rest) w l,
        has_at w d (kept ts ++ rest) l,
        value_digits 2 w v (omega arith) h,
        reread e rest r (omega (arith, t, m)) (omega (arith, t, f)) y x,
      )
  reread e rest (Good.g_yes r) m f y x = reread e rest r m f y x
  reread e rest (Good.g_no r) m f y x = reread e rest r m f y x
  reread e rest (Good.g_need a w {ts} h r) m f y x =
      rw (le-leb w (length (kept ts ++ rest)) (omega (arith, length-append (kept ts) rest))) (reread e rest r m f y x)
  reread e rest (Good.g_most a v j h r) m f y x = rw (le-leb v j h) (reread e rest r m f y x)
  reread e rest (Good.g_slots nm a j bs {ts} c h r) m f y x =
      let z : List ℕ = replicate (8 * wholes (length bs) - length bs) 0 in
      let t : length (kept (flags nm bs ∷ ts)) ≡ 8 * wholes (length bs) + length (kept ts) = Good.laid_flags Second nm bs ts in
      rw (
        ← c,
        append_assoc (bs ++ z) (kept ts) rest,
        drop_at (bs ++ z) (kept ts ++ rest) (8 * wholes (length bs)) (Good.length_padded bs),
        append_assoc bs z (kept ts ++ rest),
        take-append_seam bs (z ++ (kept ts ++ rest)),
        has_at (length bs) bs (z ++ (kept ts ++ rest)) refl,
        reread e rest r (omega (arith, t, m)) (omega (arith, t, f)) y x,
      )
  reread e rest (Good.g_plan nm v fs {k} {ts} h r) m f y x =
      let d : List ℕ = digits 2 12 v in
      let l : length d ≡ 12 = length_digits 2 12 v in
      let t : length (kept (planned nm v ts fs)) ≡ 12 + (length (kept ts) + length fs) = Good.kept_planned nm v ts fs in
      let m' : 12 + (length (kept ts) + length fs) ≤ 32768 = omega (arith, t, m) in
      let after : List ℕ = kept ts ++ (fs ++ rest) in
      let la : length after ≡ length (kept ts) + (length fs + length rest) = length-append (kept ts) (fs ++ rest) ∙ ap (λ (j : ℕ). length (kept ts) + j) (length-append fs rest) in
      let e' : ℕ = n - length after + 8 * v in
      let c : Closed n e' ts fs rest = closed n e' fs rest h.leaves (y (λ t. t)) (omega (arith, t, f)) (ap (λ (j : ℕ). n - j + 8 * v) la) in
      let inner : read_body n e' k after ≡ got ts (fs ++ rest) =
      reread e' (fs ++ rest) r (omega arith) (omega (arith, t, f, length-append fs rest)) (λ no. absurd (no tt)) (λ _. (c.passes, c.raws)) in
      rw (
        Good.kept_filler ts fs,
        append_assoc d (kept ts ++ fs) rest,
        append_assoc (kept ts) fs rest,
        take_at d after 12 l,
        drop_at d after 12 l,
        has_at 12 d after l,
        value_digits 2 12 v (omega arith) (small v (length (kept ts) + length fs) h.wide m'),
        inner,
        le-leb (n - length (fs ++ rest)) e' c.passes,
        c.takes,
        c.drops,
      )
  reread e rest (Good.g_raw nm bs _ a) m f y x =
      let f' : length bs + length rest ≤ n = omega (arith, f, Good.laid_bytes Second nm bs [], Good.laid_nil Second) in
      let q = x tt in
      rw (append-nil bs, raw_same n e bs rest f' q.0 q.1, take-append_seam bs rest, drop-append_seam bs rest)

-- ---- what is read is good

-- good fields, as long as the bits; what is left starts on a byte; within a plan, raw bytes are up to its end
pub record Read (n e : ℕ) (l i : Bool) (s : Syntax) (bs : List ℕ) (ts : List Field) (rest : List ℕ) : Type 0 where
  pub good : Good.Good l i s ts
  pub fits : length (kept ts) + length rest ≡ length bs
  pub aligned : length rest % 8 ≡ 0
  pub below : Below 2 rest
  pub raws : T i → (f : ℕ) → (leb e n ≡ true → f ≡ e - (n - length rest)) → raw_left (leb e n) f ts ≡ true

-- another description that allows the same fields
again : {n e : ℕ} {l i : Bool} {s s' : Syntax} {bs : List ℕ} {ts : List Field} {rest : List ℕ} → Read n e l i s bs ts rest → Good.Good l i s' ts → Read n e l i s' bs ts rest
again r g = record { good = g; fits = r.fits; aligned = r.aligned; below = r.below; raws = r.raws }

-- one field of m bits more in front
one_more : {n e : ℕ} {l i : Bool} {s s' : Syntax} {ts : List Field} {rest : List ℕ} (m : ℕ) (bs : List ℕ) (us : List Field) → Good.Good l i s' ts
    → length (kept ts) ≡ m + length (kept us) → m ≤ length bs → ((b : Bool) (f : ℕ) → raw_left b f ts ≡ raw_left b f us) → Read n e l i s (drop m bs) us rest → Read n e l i s' bs ts rest
one_more {n} {e} m bs us g q h w r = record {
  good = g;
  fits = omega (arith, r.fits, length-drop m bs);
  aligned = r.aligned;
  below = r.below;
  raws = λ t f p. w (leb e n) f ∙ r.raws t f p;
}

raw_bits_lem : (n e l : ℕ) → n % 8 ≡ 0 → e % 8 ≡ 0 → l % 8 ≡ 0 → l ≤ n → (m : ℕ) → cond (leb e n) (e - (n - l)) 0 ≡ m → (m ≤ l) × (m % 8 ≡ 0)
raw_bits_lem n e l hn he hl h m = cond_both (leb e n) (e - (n - l)) 0 (λ (k : ℕ). k ≡ m → (m ≤ l) × (m % 8 ≡ 0)) (λ p q. omega (arith, leb-true e n p)) (λ p q. omega arith)

raw_rest : (n e m f : ℕ) (bs : List ℕ) → length bs ≤ n → cond (leb e n) (e - (n - length bs)) 0 ≡ m → (leb e n ≡ true → f ≡ e - (n - length (drop m bs)))
    → cond (leb e n) (eqb f 0) (eqb (length (take m bs)) 0) ≡ true
raw_rest n e m f bs h q p = go (leb e n) refl q p
  where
    go : (t : Bool) → leb e n ≡ t → cond t (e - (n - length bs)) 0 ≡ m → (t ≡ true → f ≡ e - (n - length (drop m bs))) → cond t (eqb f 0) (eqb (length (take m bs)) 0) ≡ true
    go true l q' p' = eq-eqb f 0 (omega (arith, p' refl, leb-true e n l, length-drop m bs))
    go false l q' p' = eq-eqb (length (take m bs)) 0 (omega (arith, length-take m bs))

module _ (n : ℕ) (n8 : n % 8 ≡ 0) where
  -- a plan's length v, its fields us, and r behind them: how it ends
  ending : (l : Bool) (v e : ℕ) (us : List Field) (r : List ℕ) → v < 2 ^ 12 → length (kept us) % 8 ≡ 0 → length r % 8 ≡ 0 → Below 2 r
      → length (kept us) + length r ≤ n → e ≡ n - (length (kept us) + length r) + 8 * v → n - length r ≤ e → (l ≡ false → 0 < length (drop (e - (n - length r)) r))
      → ((f : ℕ) → (leb e n ≡ true → f ≡ e - (n - length r)) → raw_left (leb e n) f us ≡ true) → Good.Ending l v (take (e - (n - length r)) r) us
  ending l v e us r hv w8 r8 hb hn he hp hl raws = go (leb e n) refl
    where
      d : ℕ
      d = e - (n - length r)

      only : (b : Bool) → (b ≡ false → 0 < length (drop d r)) → length (drop d r) ≡ 0 → b ≡ true
      only true h z = refl
      only false h z = absurd (omega (arith, h refl))

      go : (t : Bool) → leb e n ≡ t → Good.Ending l v (take d r) us
      go true q =
          let h : e ≤ n = leb-true e n q in
          let lt : length (take d r) ≡ d = length-take-le d r (omega arith) in
          let w : raw_left (leb e n) d us ≡ true = raws d (λ _. refl) in
          let m : length (kept us) + d ≡ 8 * v = omega arith in
          record {
            fields = w8;
            whole = omega arith;
            below = below_take 2 d r hb;
            wide = λ g. absurd (omega arith);
            leaves = rw lt (Good.within m (rw q at w));
          }
      go false q =
          let h : n < e = leb-false e n q in
          let all : take d r ≡ r = take_all d r (omega arith) in
          let w : raw_left (leb e n) (length r) us ≡ true = raws (length r) (λ p. absurd (true≢false (sym p ∙ q))) in
          let z : length (drop d r) ≡ 0 = length-drop d r ∙ omega arith in
          let m : length (kept us) + length r < 8 * v = omega arith in
          rw all (record {
            fields = w8;
            whole = r8;
            below = hb;
            wide = λ g. absurd (omega arith);
            leaves = Good.past (only l hl z) m (rw q at w);
          })

  read_plan_lem : (nm : Name) (l i : Bool) (k : Syntax) (bs : List ℕ) (us : List Field) (r : List ℕ) {ts : List Field} {rest : List ℕ} (e₀ e v : ℕ) → 12 ≤ length bs → length bs ≤ n
      → (T i → ⊥) → v < 2 ^ 12 → length (kept us) % 8 ≡ 0 → e % 8 ≡ 0 → e ≡ n - length (drop 12 bs) + 8 * v → n - length r ≤ e
      → ts ≡ planned nm v us (take (e - (n - length r)) r) → rest ≡ drop (e - (n - length r)) r → (l ≡ false → 0 < length rest)
      → Read n e l true k (drop 12 bs) us r → Read n e₀ l i (plan nm k) bs ts rest
  read_plan_lem nm l i k bs us r {ts} {rest} e₀ e v hm hb ni hv w8 e8 he hp et er hl o =
      let d : ℕ = e - (n - length r) in
      let fs : List ℕ = take d r in
      let lb : length (drop 12 bs) ≡ length bs - 12 = length-drop 12 bs in
      let lr : length (kept us) + length r ≡ length (drop 12 bs) = o.fits in
      let ld : length (drop d r) ≡ length r - d = length-drop d r in
      let lf : length fs + length (drop d r) ≡ length r = sym (length-append fs (drop d r)) ∙ ap length (take-append-drop d r) in
      let n' : Good.Ending l v fs us =
      ending l v e us r hv w8 o.aligned o.below (omega arith) (he ∙ ap (λ (j : ℕ). n - j + 8 * v) (sym lr)) hp (λ q. rw er at (hl q)) (o.raws tt) in
      rw (et, er) (record {
        good = Good.good_plan nm i v fs ni n' o.good;
        fits = omega (arith, Good.kept_planned nm v us fs);
        aligned = omega (arith, o.aligned);
        below = below_drop 2 d r o.below;
        raws = λ t. absurd (ni t);
      })

  -- l: whether nothing is left behind, so that a plan may end past the data
  pub sound : (l i : Bool) (b c e : ℕ) (s : Syntax) (bs : List ℕ) {ts : List Field} {rest : List ℕ} → Good.Fine i b c s → Below 2 bs
      → (b + length bs) % 8 ≡ 0 → length bs ≤ n → (T i → e % 8 ≡ 0) → ((T i → ⊥) → l ≡ false → 0 < length rest) → read_body n e s bs ≡ got ts rest → Read n e l i s bs ts rest
  unfolding read_body
  sound l i b c e end bs {ts} {rest} f h a g x y q =
      let q1 : ts ≡ [] = cc in
      let q2 : rest ≡ bs = cc in
      rw (q1, q2) (record { good = Good.g_end; fits = omega (arith, Good.laid_nil Second); aligned = omega (arith, f.0); below = h; raws = λ _ _ _. refl })
  sound l i b c e (field s nm w k) bs {ts} {rest} f h a g x y q =
      let v : ℕ = value 2 (take w bs) in
      let p = cond_got (leb w (length bs)) _ _ _ _ q in
      let o = push_got (num s nm w v) (read_body n e (k v) (drop w bs)) p.1 in
      let hw : w ≤ length bs = leb-true w (length bs) p.0 in
      let hv : v < 2 ^ w = rw (length-take-le w bs hw) at (value_lt 2 (take w bs) (below_take 2 w bs h)) in
      let r : Read n e l i (k v) (drop w bs) o.0 rest =
      sound l i (b + w) (c + size s w) e (k v) (drop w bs) (f.1 v) (below_drop 2 w bs h) (omega (arith, length-drop w bs)) (omega (arith, length-drop w bs)) x y o.1 in
      rw o.2 (one_more w bs o.0 (Good.g_field s nm w k v f.0 hv r.good) (Good.laid_num Second s nm w v o.0) hw (λ _ _. refl) r)
  sound l i b c e (when true u z) bs f h a g x y q = let r = sound l i b c e u bs f.0 h a g x y q in again r (Good.g_yes r.good)
  sound l i b c e (when false u z) bs f h a g x y q = let r = sound l i b c e z bs f.1 h a g x y q in again r (Good.g_no r.good)
  sound l i b c e (need j w k) bs {ts} {rest} f h a g x y q =
      let p = cond_got (leb w (length bs)) _ _ _ _ q in
      let r : Read n e l i k bs ts rest = sound l i b c e k bs f.1 h a g x y p.1 in
      again r (Good.g_need j w (Good.least w r.good f.0) r.good)
  sound l i b c e (at_most j v m k) bs {ts} {rest} f h a g x y q =
      let p = cond_got (leb v m) _ _ _ _ q in
      let r : Read n e l i k bs ts rest = sound l i b c e k bs f.2 h a g x y p.1 in
      again r (Good.g_most j v m (leb-true v m p.0) r.good)
  sound l i b c e (slots nm j m k) bs {ts} {rest} f h a g x y q =
      let fl : Field = flags nm (take m bs) in
      let after : List ℕ = drop (8 * wholes m) bs in
      let p = cond_got (leb m (length bs)) _ _ _ _ q in
      let o = push_got fl (read_body n e k after) p.1 in
      let hm : m ≤ length bs = leb-true m (length bs) p.0 in
      let lt : length (take m bs) ≡ m = length-take-le m bs hm in
      let la : length after ≡ length bs - 8 * wholes m = length-drop (8 * wholes m) bs in
      let r : Read n e l i k after o.0 rest = sound l i b c e k after f.1 (below_drop 2 (8 * wholes m) bs h) (omega (arith, f.0)) (omega arith) x y o.1 in
      rw o.2
      (one_more (8 * wholes m) bs o.0 (Good.g_slots nm j m (take m bs) lt (below_take 2 m bs h) r.good)
      (omega (arith, Good.laid_flags Second nm (take m bs) o.0, ap wholes lt)) (omega (arith, f.0)) (λ _ _. refl) r)
  sound l i b c e (plan nm k) bs {ts} {rest} f h a g x y q =
      let after : List ℕ = drop 12 bs in
      let la : length after ≡ length bs - 12 = length-drop 12 bs in
      let v : ℕ = value 2 (take 12 bs) in
      let e' : ℕ = n - length after + 8 * v in
      let p = cond_got (leb 12 (length bs)) _ _ _ _ q in
      let hm : 12 ≤ length bs = leb-true 12 (length bs) p.0 in
      let hv : v < 2 ^ 12 = rw (length-take-le 12 bs hm) at (value_lt 2 (take 12 bs) (below_take 2 12 bs h)) in
      let z = close_got nm v n e' (read_body n e' k after) p.1 in
      let r : Read n e' l true k after z.0 z.1 =
      sound l true (b + 12) (c + 4) e' k after f.2 (below_drop 2 12 bs h) (omega (arith, f.1)) (omega arith) (λ _. omega (arith, f.1)) (λ no. absurd (no tt)) z.2 in
      read_plan_lem nm l i k bs z.0 z.1 e e' v hm g f.0 hv (omega (arith, f.1, Good.whole Second (b + 12) (c + 4) r.good f.2)) (omega (arith, f.1)) refl z.3 z.4 z.5 (y f.0) r
  sound l i b c e (raw nm) bs {ts} {rest} f h a g x y q =
      let m : ℕ = cond (leb e n) (e - (n - length bs)) 0 in
      let q1 : ts ≡ bytes nm (take m bs) ∷ [] = cc in
      let q2 : rest ≡ drop m bs = cc in
      let ha : length bs % 8 ≡ 0 = omega (arith, f.1) in
      let o : (m ≤ length bs) × (m % 8 ≡ 0) = raw_bits_lem n e (length bs) n8 (x f.0) ha g m refl in
      let lt : length (take m bs) ≡ m = length-take-le m bs o.0 in
      rw (q1, q2) (record {
        good = Good.good_raw nm i (take m bs) f.0 (below_take 2 m bs h) (rw lt o.1);
        fits = omega (arith, Good.laid_bytes Second nm (take m bs) [], Good.laid_nil Second, lt, o.0, length-drop m bs);
        aligned = omega (arith, o, length-drop m bs);
        below = below_drop 2 m bs h;
        raws = λ _ j p. raw_rest n e m j bs g refl p;
      })
