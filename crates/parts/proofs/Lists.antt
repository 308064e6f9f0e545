-- The steps of a reader's proof at a list: a count and the elements that it counts.
-- Assumes nothing.
use Prim.Native.Nat.{ℕ, ◌+◌, ◌*◌, ◌-◌, ◌/◌, ◌≤◌, ◌<◌}
use mathlib.Core.Path.{◌≡◌, refl, sym, ap, ◌∙◌}
use mathlib.Core.Bool.{Bool, true, false}
use mathlib.Core.List.{List, ◌∷◌}
use native.Mathlib.Omega.{arith}
use lib.Dec.{leb}
use lib.ListN.{length}
use Rattle.std.specs.Prelude.{Result, Ok, Err}
use borrow.Author.Tests.{leb-true, leb-false}
use Rattle.format.specs.Digits.{value_at}
use Rattle.format.specs.Refusals.{refuse}
use Rattle.format.specs.Syntax.{Name, unsigned, Syntax, end, field, need, Field, num}
use Rattle.format.specs.Tables.{times}
use Rattle.format.specs.ByName.{first_by, the}
use Rattle.format.specs.At.{read, found_at}
use Rattle.format.specs.declared.Fault.{Fault}
use Rattle.format.specs.declared.Refusal.{Refusal}
use Rattle.format.specs.declared.Found.{Found}
use Rattle.format.specs.declared.Fault.TheVariants.{FieldCut}
use Rattle.format.proofs.ReadLaws as laws
use Rattle.format.proofs.GroupLaws.{Line, fields, ends}
use Rattle.format.proofs.ListLaws.{many, times_at}
use Rattle.bits.specs.Read.{Place}
use Rattle.parts.specs.Parts.{part_from, part_at}
use Rattle.parts.specs.declared.Part.{Part}

-- a count, the test under the refusal a that so many elements of w bits are there, and what follows, by the count
abbrev pub counted : Name → Fault → ℕ → (ℕ → Syntax) → Syntax
counted c a w k = field unsigned c 10 (λ n. need a (n * w) (k n))

-- ---- a count whose elements are there, or pass the end, or that is cut short itself

module _ {A : Type 0} (b : List ℕ) (e p : ℕ) (c : Name) (a : Fault) (w : ℕ) (k : ℕ → Syntax) (found : List Field → ℕ → A) (fail : Refusal → A) where
  abbrev v : ℕ
  v = value_at b p 10

  there : p + 10 + v * w ≤ 8 * length b
      → read b e (counted c a w k) p found fail ≡ read b e (k v) (p + 10) (λ ts. found (num unsigned c 10 v ∷ ts)) fail
  there h =
      laws.field_at b e p found fail unsigned c 10 (λ n. need a (n * w) (k n)) (omega arith) ∙ laws.need_at b e (p + 10) _ fail a (v * w) (k v) (omega arith)

  past : p + 10 ≤ 8 * length b → 8 * length b < p + 10 + v * w
      → read b e (counted c a w k) p found fail ≡ fail (refuse a (v * w) (8 * length b - (p + 10)))
  past h m =
      laws.field_at b e p found fail unsigned c 10 (λ n. need a (n * w) (k n)) h ∙ laws.need_no b e (p + 10) _ fail a (v * w) (k v) (omega arith)

  cut : p ≤ 8 * length b → 8 * length b < p + 10
      → read b e (counted c a w k) p found fail ≡ fail (refuse FieldCut (p + 10) (8 * length b))
  cut h m = laws.field_no b e p found fail unsigned c 10 (λ n. need a (n * w) (k n)) h m

module _ (b : List ℕ) (a : Fault) (w p : ℕ) where
  abbrev alone : List Field → ℕ → Result (Found Part) Refusal
  alone ts q = found_at (part_from w q (the "count" ts)) (q + the "count" ts * w)

  -- the three for a list that is read alone
  part_there : let n = value_at b p 10 in p + 10 + n * w ≤ 8 * length b
      → part_at b a w p ≡ found_at (part_from w (p + 10) n) (p + 10 + n * w)
  unfolding part_at first_by
  part_there h = there b 0 p "count" a w (λ _. end) alone Err h ∙ laws.end_at b 0 (p + 10) _ Err (omega arith)

  part_past : let n = value_at b p 10 in p + 10 ≤ 8 * length b → 8 * length b < p + 10 + n * w
      → part_at b a w p ≡ Err (refuse a (n * w) (8 * length b - (p + 10)))
  unfolding part_at
  part_past h m = past b 0 p "count" a w (λ _. end) alone Err h m

  part_cut : p ≤ 8 * length b → 8 * length b < p + 10 → part_at b a w p ≡ Err (refuse FieldCut (p + 10) (8 * length b))
  unfolding part_at
  part_cut h m = cut b 0 p "count" a w (λ _. end) alone Err h m

  cases : {P : Type 0} → let n = value_at b p 10 in (p + 10 + n * w ≤ 8 * length b → P)
      → (p + 10 ≤ 8 * length b → 8 * length b < p + 10 + n * w → P) → (8 * length b < p + 10 → P) → P
  cases {P} one two three = first (leb (p + 10) (8 * length b)) refl
    where
      n : ℕ
      n = p + 10 + value_at b p 10 * w

      second : p + 10 ≤ 8 * length b → (t : Bool) → leb n (8 * length b) ≡ t → P
      second h true r = one (leb-true _ _ r)
      second h false r = two h (leb-false _ _ r)

      first : (t : Bool) → leb (p + 10) (8 * length b) ≡ t → P
      first true r = second (leb-true _ _ r) (leb n (8 * length b)) refl
      first false r = three (leb-false _ _ r)

-- what is known where a list was read
pub record Listed (b : List ℕ) (w p : ℕ) (x : Found Part) : Type 0 where
  pub start : x.value.start ≡ (p + 10) / 8
  pub size : x.value.length ≡ x.value.count * w / 8
  pub next : x.next ≡ p + 10 + x.value.count * w
  pub within : x.next ≤ 8 * length b

-- no list is both read and refused
pub not_both : {P : Type 0} {x : Found Part} {f : Refusal} → ◌≡◌ {A = Result (Found Part) Refusal} (Ok x) (Err f) → P
not_both e = absurd cc

pub listed : {r : Result (Found Part) Refusal} {x : Found Part} (b : List ℕ) (a : Fault) (w p : ℕ) → Place b p
    → r ≡ part_at b a w p → r ≡ Ok x
    → Listed b w p x
listed {r} {x} b a w p l e m =
    cases b a w p
    (λ h. let n : ℕ = value_at b p 10 in
    let z : Ok x ≡ found_at (part_from w (p + 10) n) (p + 10 + n * w) = sym m ∙ e ∙ part_there b a w p h in
    let y : x ≡ record { value = part_from w (p + 10) n; next = p + 10 + n * w } = cc in
    rw y (record { start = refl; size = refl; next = refl; within = h }))
    (λ h g. not_both (sym m ∙ e ∙ part_past b a w p h g))
    (λ h. not_both (sym m ∙ e ∙ part_cut b a w p l.within h))

-- ---- what becomes of a list's answer, where it is read in front of others

module _ {A : Type 0} (b : List ℕ) (e p : ℕ) (c : Name) (found : List Field → ℕ → A) (fail : Refusal → A) where
  -- k: what follows the count, by the count
  unfoldable pub count_then : (ℕ → Syntax) → Result (Found Part) Refusal → A
  count_then k (Ok x) = read b e (k x.value.count) (p + 10) (λ ts. found (num unsigned c 10 x.value.count ∷ ts)) fail
  count_then k (Err f) = fail f

  -- s: what follows the elements, each of which has the fields ls
  unfoldable pub list_then : List Line → Syntax → Result (Found Part) Refusal → A
  list_then ls s (Ok x) = read b e s x.next (λ ts. found (num unsigned c 10 x.value.count ∷ many b (p + 10) x.value.count ls ts)) fail
  list_then ls s (Err f) = fail f

  -- under every name, and whatever is counted, a count and its test do as they do alone
  pub by_count : (a : Fault) (w : ℕ) (k : ℕ → Syntax) → Place b p
      → read b e (counted c a w k) p found fail ≡ count_then k (part_at b a w p)
  unfolding count_then
  by_count a w k l =
      cases b a w p
      (λ h. there b e p c a w k found fail h ∙ ap (count_then k) (sym (part_there b a w p h)))
      (λ h g. past b e p c a w k found fail h g ∙ ap (count_then k) (sym (part_past b a w p h g)))
      (λ h. cut b e p c a w k found fail l.within h ∙ ap (count_then k) (sym (part_cut b a w p l.within h)))

  -- and so does a list whose elements have nothing to test
  pub by_part : {r : Result (Found Part) Refusal} (a : Fault) (ls : List Line) (s : Syntax) → Place b p
      → r ≡ part_at b a (ends 0 ls) p
      → read b e (counted c a (ends 0 ls) (λ n. times n (fields ls) s)) p found fail ≡ list_then ls s r
  unfolding count_then list_then
  by_part {r} a ls s l h = by_count a w (λ n. times n (fields ls) s) l ∙ ap (count_then (λ n. times n (fields ls) s)) (sym h) ∙ go r refl
    where
      w : ℕ
      w = ends 0 ls

      go : (y : Result (Found Part) Refusal) → r ≡ y → count_then (λ n. times n (fields ls) s) y ≡ list_then ls s y
      go (Err f) m = refl
      go (Ok x) m =
          let o = listed b a w p l h m in
          times_at b e (p + 10) x.value.count ls s (λ ts. found (num unsigned c 10 x.value.count ∷ ts)) fail (omega (arith, o.next, o.within))
          ∙ ap (λ (k : ℕ). read b e s k (λ ts. found (num unsigned c 10 x.value.count ∷ many b (p + 10) x.value.count ls ts)) fail) (sym o.next)
