-- The steps of a reader's proof at a clock and at a stamp, under any name.
-- Assumes nothing.
use Prim.Native.Nat.{ℕ, ◌+◌, ◌*◌, ◌≤◌, ◌<◌}
use Prim.Native.String.{◌++◌}
use mathlib.Core.Path.{◌≡◌, refl, sym, ap, ◌∙◌}
use mathlib.Core.Bool.{Bool, true, false, cond}
use mathlib.Core.List.{List, [], ◌∷◌}
use native.Mathlib.Omega.{arith}
use lib.ListN.{length}
use lib.Dec.{leb}
use borrow.Author.Tests.{leb-true, leb-false}
use Rattle.std.specs.Prelude.{Result, Ok, Err}
use Rattle.format.specs.Digits.{value_at}
use Rattle.format.specs.Refusals.{refuse}
use Rattle.format.specs.Syntax.{Name, Syntax, unsigned, end, at_most, Field, num}
use Rattle.format.specs.Tables.{clock, stamp, u, bits}
use Rattle.format.specs.ByName.{first_by}
use Rattle.format.specs.At.{read, found_at}
use Rattle.format.specs.declared.Refusal.{Refusal}
use Rattle.format.specs.declared.Found.{Found}
use Rattle.format.specs.declared.Fault.TheVariants.{FieldCut, ExtensionTooLarge}
use Rattle.format.proofs.ReadLaws as laws
use Rattle.format.proofs.GroupLaws.{plainly, group, group_from, one_from}
use Rattle.bits.specs.Read.{Place, Room}
use Rattle.clocks.specs.Clocks.{clock_at, clock_of, clock_by, stamp_of}
use Rattle.clocks.specs.declared.Clock.{Clock}
use Rattle.clocks.specs.declared.Stamp.{Stamp}

-- the fields of a clock and of a stamp, in front of others
abbrev pub put : Name → Clock → List Field → List Field
put c k ts =
    num unsigned (c ++ "_base") 33 k.base ∷ num unsigned (c ++ "_reserved_zero_future_use") 6 k.reserved
    ∷ num unsigned (c ++ "_ext") 9 k.ext ∷ ts

abbrev pub put_stamp : Name → Stamp → List Field → List Field
put_stamp t k ts =
    num unsigned (t ++ "_year") 8 k.year ∷ num unsigned (t ++ "_reserved_zero_future_use") 7 k.reserved
    ∷ num unsigned (t ++ "_day") 9 k.day ∷ num unsigned (t ++ "_day_fraction") 32 k.fraction ∷ ts

-- a clock's lines behind its base, and all of them; k: what follows, by the extension
abbrev after1 : Name → (ℕ → Syntax) → Syntax
after1 c k = u (c ++ "_reserved_zero_future_use") 6 (bits (c ++ "_ext") 9 k)

abbrev pub lines : Name → (ℕ → Syntax) → Syntax
lines c k = u (c ++ "_base") 33 (after1 c k)

-- the end of the first field that is cut short, where one of them is; n: the bits that there are
abbrev pub cut_at : ℕ → ℕ → ℕ
cut_at n p = cond (leb (p + 33) n) (cond (leb (p + 33 + 6) n) (p + 33 + 6 + 9) (p + 33 + 6)) (p + 33)

module _ {A : Type 0} (b : List ℕ) (e p : ℕ) (c : Name) (k : ℕ → Syntax) (found : List Field → ℕ → A) (fail : Refusal → A) where
  -- the fields of a clock that is all there
  pub all_there : p + 48 ≤ 8 * length b
      → read b e (lines c k) p found fail ≡ read b e (k (clock_of b p).ext) (p + 48) (λ ts. found (put c (clock_of b p) ts)) fail
  all_there h =
      group_from b e p 0 (plainly (c ++ "_base") 33 ∷ plainly (c ++ "_reserved_zero_future_use") 6 ∷ []) (bits (c ++ "_ext") 9 k) found fail (omega arith)
      ∙ one_from b e p 39 unsigned (c ++ "_ext") 9 k _ fail h

  -- of one that is cut short the first field that goes on behind the end refuses it, whatever follows
  pub cut_short : p ≤ 8 * length b → 8 * length b < p + 48
      → read b e (lines c k) p found fail ≡ fail (refuse FieldCut (cut_at (8 * length b) p) (8 * length b))
  cut_short l h = first (leb (p + 33) n) refl
    where
      n : ℕ
      n = 8 * length b

      x : A
      x = read b e (lines c k) p found fail

      base : p + 33 ≤ n → x ≡ read b e (after1 c k) (p + 33) (λ ts. found (num unsigned (c ++ "_base") 33 (value_at b p 33) ∷ ts)) fail
      base m = laws.field_at b e p found fail unsigned (c ++ "_base") 33 (λ _. after1 c k) m

      second : p + 33 ≤ n → (t : Bool) → leb (p + 33 + 6) n ≡ t
          → x ≡ fail (refuse FieldCut (cond t (p + 33 + 6 + 9) (p + 33 + 6)) n)
      second m true r =
          let g : p + 33 + 6 ≤ n = leb-true (p + 33 + 6) n r in
          base m ∙ laws.field_at b e (p + 33) _ fail unsigned (c ++ "_reserved_zero_future_use") 6 (λ _. bits (c ++ "_ext") 9 k) g
          ∙ laws.field_no b e (p + 33 + 6) _ fail unsigned (c ++ "_ext") 9 k g (omega arith)
      second m false r =
          base m ∙ laws.field_no b e (p + 33) _ fail unsigned (c ++ "_reserved_zero_future_use") 6 (λ _. bits (c ++ "_ext") 9 k) m (leb-false (p + 33 + 6) n r)

      first : (t : Bool) → leb (p + 33) n ≡ t
          → x ≡ fail (refuse FieldCut (cond t (cond (leb (p + 33 + 6) n) (p + 33 + 6 + 9) (p + 33 + 6)) (p + 33)) n)
      first true r = second (leb-true (p + 33) n r) (leb (p + 33 + 6) n) refl
      first false r = laws.field_no b e p found fail unsigned (c ++ "_base") 33 (λ _. after1 c k) l (leb-false (p + 33) n r)

-- ---- a clock and its test: it is read, refused by its extension, or cut short

-- what follows the extension v
abbrev tail : Syntax → ℕ → Syntax
tail s v = at_most ExtensionTooLarge v 299 s

module _ {A : Type 0} (b : List ℕ) (e p : ℕ) (c : Name) (s : Syntax) (found : List Field → ℕ → A) (fail : Refusal → A) where
  there : p + 48 ≤ 8 * length b → (clock_of b p).ext ≤ 299
      → read b e (clock c s) p found fail ≡ read b e s (p + 48) (λ ts. found (put c (clock_of b p) ts)) fail
  there h m = all_there b e p c (tail s) found fail h ∙ laws.most_at b e (p + 48) _ fail ExtensionTooLarge (clock_of b p).ext 299 s m

  above : p + 48 ≤ 8 * length b → 299 < (clock_of b p).ext
      → read b e (clock c s) p found fail ≡ fail (refuse ExtensionTooLarge (clock_of b p).ext 299)
  above h m = all_there b e p c (tail s) found fail h ∙ laws.most_no b e (p + 48) _ fail ExtensionTooLarge (clock_of b p).ext 299 s m

-- what is made of the fields of a clock that is read alone
abbrev pub alone : List Field → ℕ → Result (Found Clock) Refusal
alone ts q = found_at (clock_by "ncr" ts) q

module _ (b : List ℕ) (p : ℕ) where
  -- the three for a clock that is read alone
  pub clock_there : p + 48 ≤ 8 * length b → (clock_of b p).ext ≤ 299 → clock_at b p ≡ found_at (clock_of b p) (p + 48)
  unfolding clock_at first_by
  clock_there h m = there b 0 p "ncr" end alone Err h m ∙ laws.end_at b 0 (p + 48) (λ ts. alone (put "ncr" (clock_of b p) ts)) Err h

  pub clock_above : p + 48 ≤ 8 * length b → 299 < (clock_of b p).ext
      → clock_at b p ≡ Err (refuse ExtensionTooLarge (clock_of b p).ext 299)
  unfolding clock_at
  clock_above h m = above b 0 p "ncr" end alone Err h m

  pub clock_cut : p ≤ 8 * length b → 8 * length b < p + 48
      → clock_at b p ≡ Err (refuse FieldCut (cut_at (8 * length b) p) (8 * length b))
  unfolding clock_at
  clock_cut l h = cut_short b 0 p "ncr" (tail end) alone Err l h

  -- one of the three holds
  pub cases : {P : Type 0} → (p + 48 ≤ 8 * length b → (clock_of b p).ext ≤ 299 → P)
      → (p + 48 ≤ 8 * length b → 299 < (clock_of b p).ext → P)
      → (8 * length b < p + 48 → P) → P
  cases {P} one two three = first (leb (p + 48) (8 * length b)) refl
    where
      second : p + 48 ≤ 8 * length b → (t : Bool) → leb (clock_of b p).ext 299 ≡ t → P
      second h true r = one h (leb-true _ _ r)
      second h false r = two h (leb-false _ _ r)

      first : (t : Bool) → leb (p + 48) (8 * length b) ≡ t → P
      first true r = second (leb-true _ _ r) (leb (clock_of b p).ext 299) refl
      first false r = three (leb-false _ _ r)

-- what is known where a clock was read
pub record Told (b : List ℕ) (p : ℕ) (x : Found Clock) : Type 0 where
  pub clock : x.value ≡ clock_of b p
  pub next : x.next ≡ p + 48
  pub there : p + 48 ≤ 8 * length b

-- no clock is both read and refused
not_both : {P : Type 0} {x : Found Clock} {f : Refusal} → ◌≡◌ {A = Result (Found Clock) Refusal} (Ok x) (Err f) → P
not_both e = absurd cc

pub told : (b : List ℕ) (p : ℕ) {x : Found Clock} {r : Result (Found Clock) Refusal} → Place b p → r ≡ clock_at b p
    → r ≡ Ok x → Told b p x
told b p {x} l e m =
    cases b p
    (λ h g. let z : Ok x ≡ found_at (clock_of b p) (p + 48) = sym m ∙ e ∙ clock_there b p h g in
    record { clock = cc; next = cc; there = h })
    (λ h g. not_both (sym m ∙ e ∙ clock_above b p h g))
    (λ h. not_both (sym m ∙ e ∙ clock_cut b p l.within h))

-- reading goes on behind a clock that was read; in a group, with the bits that are left of it
pub clock_place : {b : List ℕ} {x : Found Clock} {r : Result (Found Clock) Refusal} (p : ℕ) → r ≡ Ok x
    → r ≡ clock_at b p → Place b p → Place b x.next
clock_place {b} p m e l = let t = told b p l e m in record { short = l.short; within = omega arith }

pub clock_room : {b : List ℕ} {x : Found Clock} {r : Result (Found Clock) Refusal} (p w : ℕ) → r ≡ Ok x
    → r ≡ clock_at b p → Room b p (w + 48)
    → Room b x.next w
clock_room {b} p w m e l =
    let t = told b p (record { short = l.short; within = omega arith }) e m in
    record { short = l.short; fits = omega arith }

module _ {A : Type 0} (b : List ℕ) (e p : ℕ) (c : Name) (s : Syntax) (found : List Field → ℕ → A) (fail : Refusal → A) where
  -- what becomes of a clock's answer
  then : Result (Found Clock) Refusal → A
  then (Ok x) = read b e s x.next (λ ts. found (put c x.value ts)) fail
  then (Err f) = fail f

  -- under every name, and whatever follows it, a clock does as it does alone
  alike : Place b p → read b e (clock c s) p found fail ≡ then (clock_at b p)
  unfolding then
  alike l =
      cases b p
      (λ h g. there b e p c s found fail h g ∙ ap then (sym (clock_there b p h g)))
      (λ h g. above b e p c s found fail h g ∙ ap then (sym (clock_above b p h g)))
      (λ h. cut_short b e p c (tail s) found fail l.within h ∙ ap then (sym (clock_cut b p l.within h)))

module _ {A : Type 0} {x : A} (b : List ℕ) (e p : ℕ) (found : List Field → ℕ → A) (fail : Refusal → A) where
  -- a clock that `read_clock` or `clock_within` read, or refused
  pub got_clock : {y : Found Clock} {r : Result (Found Clock) Refusal} (c : Name) (s : Syntax) → r ≡ clock_at b p
      → r ≡ Ok y → Place b p
      → x ≡ read b e s y.next (λ ts. found (put c y.value ts)) fail → x ≡ read b e (clock c s) p found fail
  unfolding then
  got_clock c s h m l q = q ∙ ap (then b e p c s found fail) (sym m ∙ h) ∙ sym (alike b e p c s found fail l)

  pub cut_clock : {f : Refusal} {r : Result (Found Clock) Refusal} (c : Name) (s : Syntax) → r ≡ clock_at b p
      → r ≡ Err f → Place b p
      → x ≡ fail f → x ≡ read b e (clock c s) p found fail
  unfolding then
  cut_clock c s h m l q = q ∙ ap (then b e p c s found fail) (sym m ∙ h) ∙ sym (alike b e p c s found fail l)

  -- a stamp that is all there
  pub there_stamp : {k : Stamp} (t : Name) (s : Syntax) → k ≡ stamp_of b p → Room b p 56
      → x ≡ read b e s (p + 56) (λ ts. found (put_stamp t k ts)) fail → x ≡ read b e (stamp t s) p found fail
  there_stamp t s h l q =
      group b e p
      (plainly (t ++ "_year") 8 ∷ plainly (t ++ "_reserved_zero_future_use") 7 ∷ plainly (t ++ "_day") 9 ∷ plainly (t ++ "_day_fraction") 32 ∷ []) s found fail
      l.fits (q ∙ ap (λ (z : Stamp). read b e s (p + 56) (λ ts. found (put_stamp t z ts)) fail) h)

pub ruleset clocks = (got_clock, cut_clock, clock_place, clock_room, there_stamp)
