-- A list of systems: its clocks are tested in order, alone and in front of others, under every name.
-- Assumes nothing.
use Prim.Native.Nat.{ℕ, zero, suc, ◌+◌, ◌*◌, ◌-◌, ◌≤◌, ◌<◌}
use mathlib.Core.Path.{◌≡◌, refl, sym, ap, ap₂, ◌∙◌}
use mathlib.Core.List.{List, ◌∷◌, ◌++◌}
use native.Mathlib.Omega.{arith}
use Rattle.std.specs.Prelude.{Result, Ok, Err}
use Rattle.format.specs.Digits.{value_at}
use Rattle.format.specs.Syntax.{Name, unsigned, Syntax, end, Field, num}
use Rattle.format.specs.Tables.{times, system}
use Rattle.format.specs.ByName.{first_by, behind}
use Rattle.format.specs.At.{read, found_at}
use Rattle.format.specs.declared.Fault.{Fault}
use Rattle.format.specs.declared.Refusal.{Refusal}
use Rattle.format.specs.declared.Found.{Found}
use Rattle.format.proofs.ReadLaws as laws
use Rattle.format.proofs.GroupLaws.{stand}
use Rattle.format.proofs.ListLaws.{many}
use Rattle.bits.specs.Read.{Place, Room}
use Rattle.clocks.specs.Clocks.{clock_at}
use Rattle.clocks.specs.declared.Clock.{Clock}
use Rattle.clocks.proofs.Clocks.{put, told}
use Rattle.parts.specs.Parts.{part_by, part_at}
use Rattle.parts.specs.declared.Part.{Part}
use Rattle.parts.proofs.Lists.{counted, Listed, listed, not_both, count_then, list_then, by_count}
use Rattle.systems.specs.Systems.{systems_at}
use Rattle.systems.proofs.Elements.{lines, clock_behind, got_system, cut_system}

-- What testing n systems from p on leaves of an answer: the answer r where every clock is read, else the refusal of the
-- first that is not.
goes : Result (Found Part) Refusal → Result (Found Clock) Refusal → Result (Found Part) Refusal
goes on (Ok k) = on
goes on (Err f) = Err f

pub tested : Result (Found Part) Refusal → List ℕ → ℕ → ℕ → Result (Found Part) Refusal
tested r b p zero = r
tested r b p (suc n) = goes (tested r b (p + 80) n) (clock_at b (p + 32))

-- a system whose clock is read has the fields of its lines
fine : {A : Type 0} {y : Found Clock} (b : List ℕ) (e p : ℕ) (id time : Name) (s : Syntax) (found : List Field → ℕ → A) (fail : Refusal → A)
    → Room b p 80 → clock_at b (p + 32) ≡ Ok y
    → read b e (system id time s) p found fail ≡ read b e s (p + 80) (λ ts. found (stand b p 0 (lines id time) ++ ts)) fail
fine {A} {y} b e p id time s found fail l m =
    let t = told b (p + 32) (clock_behind b p l) refl m in
    let y1 : p + 65 ≡ p + 32 + 33 = omega arith in
    let y2 : p + 71 ≡ p + 32 + 39 = omega arith in
    let y3 : p + 80 ≡ y.next = omega (arith, t.next) in
    sym (got_system b e p found fail id time s l refl m
    (rw (y1, y2, y3) (ap (λ (z : Clock). read b e s y.next (λ ts. found (num unsigned id 32 (value_at b p 32) ∷ put time z ts)) fail) (sym t.clock))))

-- Under every name, reading n systems in front of others is what is made (after) of what testing them leaves of r, if
-- what is made of r itself is to read on behind them.
tests : {A : Type 0} {r : Result (Found Part) Refusal} (b : List ℕ) (e p n : ℕ) (id time : Name) (s : Syntax) (found : List Field → ℕ → A) (fail : Refusal → A) (after : Result (Found Part) Refusal → A)
    → ((f : Refusal) → fail f ≡ after (Err f)) → Room b p (n * 80)
    → read b e s (p + n * 80) (λ ts. found (many b p n (lines id time) ts)) fail ≡ after r
    → read b e (times n (system id time) s) p found fail ≡ after (tested r b p n)
unfolding many tested goes
tests b e p zero id time s found fail after bad l q =
    let z : p ≡ p + 0 * 80 = omega arith in
    ap (λ (k : ℕ). read b e s k found fail) z ∙ q
tests {A} {r} b e p (suc n) id time s found fail after bad l q =
    let next : Room b (p + 80) (n * 80) = record { short = l.short; fits = omega (arith, l.fits) } in
    let z : p + 80 + n * 80 ≡ p + suc n * 80 = omega arith in
    go (clock_at b (p + 32)) refl
    (tests b e (p + 80) n id time s more fail after bad next (ap (λ (k : ℕ). read b e s k (λ ts. more (many b (p + 80) n (lines id time) ts)) fail) z ∙ q))
  where
    more : List Field → ℕ → A
    more ts = found (stand b p 0 (lines id time) ++ ts)

    here : Room b p 80
    here = record { short = l.short; fits = omega (arith, l.fits) }

    go : (y : Result (Found Clock) Refusal) → clock_at b (p + 32) ≡ y
        → read b e (times n (system id time) s) (p + 80) more fail ≡ after (tested r b (p + 80) n)
        → read b e (times (suc n) (system id time) s) p found fail ≡ after (goes (tested r b (p + 80) n) y)
    go (Err f) m ih = sym (cut_system b e p found fail id time (times n (system id time) s) here refl m (sym (bad f)))
    go (Ok k) m ih = fine b e p id time (times n (system id time) s) found fail here m ∙ ih

-- what testing its systems leaves of the answer to a list that starts at p
retested : List ℕ → ℕ → Result (Found Part) Refusal → Result (Found Part) Refusal
retested b p (Ok x) = tested (Ok x) b (p + 10) x.value.count
retested b p (Err f) = Err f

-- so is reading a count and the systems that it counts, of what testing leaves of the list's answer
by_tests : {A : Type 0} (b : List ℕ) (e p : ℕ) (c : Name) (a : Fault) (id time : Name) (s : Syntax) (found : List Field → ℕ → A) (fail : Refusal → A)
    (after : Result (Found Part) Refusal → A) → Place b p → ((f : Refusal) → fail f ≡ after (Err f))
    → ((x : Found Part) → Listed b 80 p x
    → read b e s x.next (λ ts. found (num unsigned c 10 x.value.count ∷ many b (p + 10) x.value.count (lines id time) ts)) fail ≡ after (Ok x))
    → read b e (counted c a 80 (λ n. times n (system id time) s)) p found fail ≡ after (retested b p (part_at b a 80 p))
unfolding count_then retested
by_tests {A} b e p c a id time s found fail after l bad good = by_count b e p c found fail a 80 k l ∙ go (part_at b a 80 p) refl
  where
    k : ℕ → Syntax
    k n = times n (system id time) s

    go : (y : Result (Found Part) Refusal) → part_at b a 80 p ≡ y
        → count_then b e p c found fail k y ≡ after (retested b p y)
    go (Err f) m = bad f
    go (Ok x) m =
        let o = listed b a 80 p l refl m in
        let more : List Field → ℕ → A = λ ts. found (num unsigned c 10 x.value.count ∷ ts) in
        tests b e (p + 10) x.value.count id time s more fail after bad (record { short = l.short; fits = omega (arith, o.next, o.within) })
        (ap (λ (n : ℕ). read b e s n (λ ts. more (many b (p + 10) x.value.count (lines id time) ts)) fail) (sym o.next) ∙ good x o)

-- a list of systems that is read alone
alone : (b : List ℕ) (a : Fault) (p : ℕ) → Place b p → systems_at b a p ≡ retested b p (part_at b a 80 p)
unfolding systems_at first_by behind
alone b a p l =
    by_tests b 0 p "count" a "system_id" "time" end (λ ts q. found_at (part_by "count" 80 p ts) q) Err (λ y. y) l (λ f. refl)
    (λ x o. laws.end_at b 0 x.next _ Err o.within
    ∙ (λ i. found_at (record { start = sym o.start i; length = sym o.size i; count = x.value.count }) x.next))

-- under every name, and in front of whatever follows it, a list of systems does as it does alone
pub by_systems : {A : Type 0} {r : Result (Found Part) Refusal} (b : List ℕ) (e p : ℕ) (c : Name) (found : List Field → ℕ → A) (fail : Refusal → A)
    (a : Fault) (id time : Name) (s : Syntax) → Place b p → r ≡ systems_at b a p
    → read b e (counted c a 80 (λ n. times n (system id time) s)) p found fail ≡ list_then b e p c found fail (lines id time) s r
unfolding list_then
by_systems b e p c found fail a id time s l h =
    by_tests b e p c a id time s found fail (list_then b e p c found fail (lines id time) s) l (λ f. refl) (λ x o. refl)
    ∙ ap (list_then b e p c found fail (lines id time) s) (sym (alone b a p l) ∙ sym h)

-- a test that leaves a list leaves the one that there was
kept : {x : Found Part} (r : Result (Found Part) Refusal) (b : List ℕ) (p n : ℕ) → tested r b p n ≡ Ok x → r ≡ Ok x
unfolding tested goes
kept r b p zero h = h
kept {x} r b p (suc n) h = go (clock_at b (p + 32)) h (kept r b (p + 80) n)
  where
    go : (y : Result (Found Clock) Refusal) → goes (tested r b (p + 80) n) y ≡ Ok x
        → (tested r b (p + 80) n ≡ Ok x → r ≡ Ok x) → r ≡ Ok x
    go (Ok k) m ih = ih m
    go (Err f) m ih = not_both (sym m)

pub listed_systems : {r : Result (Found Part) Refusal} {x : Found Part} (b : List ℕ) (a : Fault) (p : ℕ) → Place b p
    → r ≡ systems_at b a p → r ≡ Ok x → Listed b 80 p x
unfolding retested
listed_systems {r} {x} b a p l h m = go (part_at b a 80 p) refl (sym (alone b a p l) ∙ sym h ∙ m)
  where
    go : (y : Result (Found Part) Refusal) → part_at b a 80 p ≡ y → retested b p y ≡ Ok x → Listed b 80 p x
    go (Err f) e n = not_both (sym n)
    go (Ok u) e n = listed b a 80 p l refl (e ∙ kept (Ok u) b (p + 10) u.value.count n)

-- ---- the loop of `read_systems`

-- the first i systems are tested: what is left is to test the others
pub record Tested (r : Result (Found Part) Refusal) (b : List ℕ) (p n i : ℕ) : Type 0 where
  pub upto : i ≤ n
  pub left : tested r b p n ≡ tested r b (p + 80 * i) (n - i)

pub begin : (r : Result (Found Part) Refusal) (b : List ℕ) (p n : ℕ) → Tested r b p n 0
begin r b p n =
    let z : p ≡ p + 80 * 0 = omega arith in
    let y : n ≡ n - 0 = omega arith in
    record { upto = omega arith; left = ap₂ (λ (k m : ℕ). tested r b k m) z y }

module _ {r : Result (Found Part) Refusal} {a : Result (Found Clock) Refusal} (b : List ℕ) (p n i : ℕ) (t : Tested r b p n i) (l : i < n) (e : a ≡ clock_at b (p + 80 * i + 32)) where
  next : tested r b p n ≡ goes (tested r b (p + 80 * (i + 1)) (n - (i + 1))) a
  unfolding tested
  next =
      let z : n - i ≡ suc (n - (i + 1)) = omega arith in
      let y : p + 80 * i + 80 ≡ p + 80 * (i + 1) = omega arith in
      t.left ∙ ap (λ (k : ℕ). tested r b (p + 80 * i) k) z
      ∙ ap₂ (λ (k : ℕ) (c : Result (Found Clock) Refusal). goes (tested r b k (n - (i + 1))) c) y (sym e)

  -- a turn: the next clock was read, or refused
  pub turn : {k : Found Clock} → a ≡ Ok k → Tested r b p n (i + 1)
  unfolding goes
  turn m = record { upto = omega arith; left = next ∙ ap (goes (tested r b (p + 80 * (i + 1)) (n - (i + 1)))) m }

  pub stop : {f : Refusal} → a ≡ Err f → Err f ≡ tested r b p n
  unfolding goes
  stop m = sym (next ∙ ap (goes (tested r b (p + 80 * (i + 1)) (n - (i + 1)))) m)

-- all are tested
pub done : {r : Result (Found Part) Refusal} (b : List ℕ) (p n i : ℕ) → Tested r b p n i → n ≤ i → r ≡ tested r b p n
unfolding tested
done {r} b p n i t l =
    let z : n - i ≡ 0 = omega arith in
    sym (t.left ∙ ap (λ (k : ℕ). tested r b (p + 80 * i) k) z)

-- the answer of a list's test, where `read_part` refused the list or read it
pub refused_alone : {r x : Result (Found Part) Refusal} {f : Refusal} (b : List ℕ) (a : Fault) (p : ℕ) → Place b p
    → r ≡ part_at b a 80 p → r ≡ Err f → x ≡ Err f → x ≡ systems_at b a p
unfolding retested
refused_alone b a p l h m y = y ∙ ap (retested b p) (sym m ∙ h) ∙ sym (alone b a p l)

pub tested_alone : {r x : Result (Found Part) Refusal} {t : Found Part} (b : List ℕ) (a : Fault) (p : ℕ) → Place b p
    → r ≡ part_at b a 80 p → r ≡ Ok t
    → x ≡ tested (Ok t) b (p + 10) t.value.count → x ≡ systems_at b a p
unfolding retested
tested_alone b a p l h m y = y ∙ ap (retested b p) (sym m ∙ h) ∙ sym (alone b a p l)
