-- An element of a list: where its bits lie, and what reading them gives.
-- Assumes nothing.
use Prim.Native.Nat.{ℕ, ◌+◌, ◌*◌, ◌≤◌, ◌<◌}
use Prim.Native.String.{◌++◌}
use mathlib.Core.Path.{◌≡◌, refl, sym, ap, ◌∙◌}
use mathlib.Core.Bool.{Bool, true, false, cond, ◌&&◌}
use mathlib.Core.List.{List, [], ◌∷◌}
use native.Mathlib.Omega.{arith}
use lib.Dec.{leb, ltb}
use lib.ListN.{length}
use Rattle.std.specs.Prelude.{Option, Some, None, Result, Ok, Err}
use Rattle.std.specs.Result.{result_ok}
use borrow.Author.Tests.{leb-true, ltb-true, le-leb, lt-ltb}
use Rattle.format.specs.Syntax.{Name, unsigned, Syntax, end, Field, num}
use Rattle.format.specs.Tables.{u, clock, system}
use Rattle.format.specs.At.{read}
use Rattle.format.specs.ByName.{first_by}
use Rattle.format.specs.Digits.{value_at}
use Rattle.format.specs.declared.Refusal.{Refusal}
use Rattle.format.specs.declared.Found.{Found}
use Rattle.format.proofs.GroupLaws.{Line, plainly, group}
use Rattle.bits.specs.Read.{Place, Room}
use Rattle.bits.proofs.Reading.{over}
use Rattle.clocks.specs.Clocks.{clock_at}
use Rattle.clocks.specs.declared.Clock.{Clock}
use Rattle.clocks.proofs.Clocks.{put, got_clock, cut_clock, clock_place}
use Rattle.parts.specs.declared.Part.{Part}
use Rattle.systems.specs.Systems.{within, place_of, element_at, system_of, system_at}
use Rattle.systems.specs.declared.System.{System}

both : (x y : Bool) → x && y ≡ true → (x ≡ true) × (y ≡ true)
both true y h = (refl, h)
both false y h = absurd cc

-- what `within` says where it holds
pub record Within (len start count size index : ℕ) : Type 0 where
  pub short : len ≤ 4096
  pub counted : index < count
  pub fits : start + size * index + size ≤ len

holds : (len start count size index : ℕ) → within len start count size index ≡ true → Within len start count size index
unfolding within
holds len start count size index e =
    let o = both (leb len 4096 && ltb index count) (leb (start + size * index + size) len) e in
    let p = both (leb len 4096) (ltb index count) o.0 in
    record { short = leb-true len 4096 p.0; counted = ltb-true index count p.1; fits = leb-true (start + size * index + size) len o.1 }

-- where a list has no element, and where it has one
module _ (len : ℕ) (part : Part) (size index : ℕ) where
  pub no_place : (Within len part.start part.count size index → ⊥) → None ≡ place_of len part size index
  unfolding place_of
  no_place h = go (within len part.start part.count size index) refl
    where
      go : (t : Bool) → within len part.start part.count size index ≡ t
          → None ≡ cond t (Some (8 * (part.start + size * index))) None
      go true e = absurd (h (holds len part.start part.count size index e))
      go false e = refl

  pub a_place : len ≤ 4096 → index < part.count → part.start + size * index + size ≤ len
      → Some (8 * (part.start + size * index)) ≡ place_of len part size index
  unfolding place_of within
  a_place short counted fits = rw (le-leb len 4096 short, lt-ltb index part.count counted, le-leb (part.start + size * index + size) len fits)

-- the place that was found: of an element that is there
pub record Placed (b : List ℕ) (part : Part) (size index at : ℕ) : Type 0 where
  pub inside : within (length b) part.start part.count size index ≡ true
  pub place : at ≡ 8 * (part.start + size * index)
  pub room : Room b at (8 * size)

module _ {r : Option ℕ} (b : List ℕ) (part : Part) (size index : ℕ) (e : r ≡ place_of (length b) part size index) where
  pub placed : {at : ℕ} → r ≡ Some at → Placed b part size index at
  unfolding place_of
  placed {at} m = go (within (length b) part.start part.count size index) refl (sym m ∙ e)
    where
      go : (t : Bool) → within (length b) part.start part.count size index ≡ t
          → Some at ≡ cond t (Some (8 * (part.start + size * index))) None → Placed b part size index at
      go true h q =
          let w = holds _ _ _ _ _ h in
          let z : at ≡ 8 * (part.start + size * index) = cc in
          record { inside = h; place = z; room = record { short = w.short; fits = omega (arith, w.fits) } }
      go false h q = cc

  module _ {A : Type 0} (s : Syntax) (found : List Field → A) (none : A) where
    pub no_element : {x : A} → r ≡ None → x ≡ none → x ≡ element_at size s found none b part index
    unfolding place_of element_at
    no_element m y = y ∙ go (within (length b) part.start part.count size index) refl (sym m ∙ e)
      where
        go : (t : Bool) → within (length b) part.start part.count size index ≡ t
            → None ≡ cond t (Some (8 * (part.start + size * index))) None
            → none ≡ cond (within (length b) part.start part.count size index) (read b 0 s (8 * (part.start + size * index)) (λ ts q. found ts) (λ f. none)) none
        go true h q = cc
        go false h q = rw h

    pub element : {x : A} {at : ℕ} → r ≡ Some at → x ≡ read b 0 s at (λ ts q. found ts) (λ f. none)
        → x ≡ element_at size s found none b part index
    unfolding element_at
    element m q = let o = placed m in rw o.inside (rw o.place at q)

-- the lines of a system
abbrev pub lines : Name → Name → List Line
lines id time = plainly id 32 ∷ plainly (time ++ "_base") 33 ∷ plainly (time ++ "_reserved_zero_future_use") 6 ∷ plainly (time ++ "_ext") 9 ∷ []

-- the place of a system's clock
pub clock_behind : (b : List ℕ) (p : ℕ) → Room b p 80 → Place b (p + 32)
clock_behind b p l = record { short = l.short; within = omega (arith, l.fits) }

module _ {A : Type 0} {x : A} {r : Result (Found Clock) Refusal} (b : List ℕ) (e p : ℕ) (found : List Field → ℕ → A) (fail : Refusal → A) (id time : Name) (s : Syntax) where
  -- a system whose clock was read, or refused, in front of others
  pub got_system : {y : Found Clock} → Room b p 80 → r ≡ clock_at b (p + 32) → r ≡ Ok y
      → x ≡ read b e s y.next (λ ts. found (num unsigned id 32 (value_at b p 32) ∷ put time y.value ts)) fail
      → x ≡ read b e (system id time s) p found fail
  got_system l h m q =
      group b e p (plainly id 32 ∷ []) (clock time s) found fail (omega (arith, l.fits)) (got_clock b e (p + 32) _ fail time s h m (clock_behind b p l) q)

  pub cut_system : {f : Refusal} → Room b p 80 → r ≡ clock_at b (p + 32) → r ≡ Err f → x ≡ fail f
      → x ≡ read b e (system id time s) p found fail
  cut_system l h m q =
      group b e p (plainly id 32 ∷ []) (clock time s) found fail (omega (arith, l.fits)) (cut_clock b e (p + 32) _ fail time s h m (clock_behind b p l) q)

module _ {A : Type 0} {x : A} (b : List ℕ) (p : ℕ) (found : List Field → A) (none : A) where
  -- an id of 32 bits alone, and one with a clock behind it that was read
  pub id_alone : {v : ℕ} (nm : Name) → Room b p 32 → v ≡ value_at b p 32 → x ≡ found (num unsigned nm 32 v ∷ [])
      → x ≡ read b 0 (u nm 32 end) p (λ ts q. found ts) (λ f. none)
  id_alone nm h e q =
      group b 0 p (plainly nm 32 ∷ []) end _ _ h.fits
      (over b 0 (p + 32) _ _ (record { short = h.short; within = h.fits }) (q ∙ ap (λ (n : ℕ). found (num unsigned nm 32 n ∷ [])) e))

  pub id_and_clock : {v : ℕ} {y : Found Clock} {r : Result (Found Clock) Refusal} (id time : Name) → Room b p 80
      → v ≡ value_at b p 32
      → r ≡ clock_at b (p + 32) → r ≡ Ok y → x ≡ found (num unsigned id 32 v ∷ put time y.value [])
      → x ≡ read b 0 (system id time end) p (λ ts q. found ts) (λ f. none)
  id_and_clock {v} {y} id time l e h m q =
      got_system b 0 p _ _ id time end l h m
      (over b 0 y.next _ _ (clock_place (p + 32) m h (clock_behind b p l)) (q ∙ ap (λ (n : ℕ). found (num unsigned id 32 n ∷ put time y.value [])) e))

-- a clock's answer as an option: it was read, or it was refused
pub was_read : {r : Result (Found Clock) Refusal} {o : Option (Found Clock)} {y : Found Clock} → o ≡ result_ok r
    → o ≡ Some y → r ≡ Ok y
was_read {r = Ok x} {y = y} e m = let z : Some y ≡ Some x = sym m ∙ e in cc
was_read {r = Err f} e m = cc

pub was_refused : {r : Result (Found Clock) Refusal} {o : Option (Found Clock)} → o ≡ result_ok r → o ≡ None
    → (f : Refusal) × (r ≡ Err f)
was_refused {r = Ok x} e m = cc
was_refused {r = Err f} e m = (f, refl)

-- ---- a system is the same under every name

-- what is made of a system, where there is one
unfoldable pub given : {A : Type 0} → (System → A) → A → Option System → A
given make none (Some x) = make x
given make none None = none

module _ {A : Type 0} (id time : Name) (found : List Field → A) (none : A) (make : System → A)
    (same : (v : ℕ) (k : Clock) → found (num unsigned id 32 v ∷ put time k []) ≡ make (record { id = v; time = k }))
  where
    pub named : (b : List ℕ) (part : Part) (index : ℕ)
        → element_at 10 (system id time end) found none b part index ≡ given make none (system_at b part index)
    unfolding element_at given first_by
    named b part index = go (within (length b) part.start part.count 10 index) refl
      where
        p : ℕ
        p = 8 * (part.start + 10 * index)

        own : List Field → Option System
        own ts = Some (system_of ts)

        mine : Option System
        mine = read b 0 (system "system_id" "time" end) p (λ ts q. own ts) (λ f. None)

        its : A
        its = read b 0 (system id time end) p (λ ts q. found ts) (λ f. none)

        clocked : Room b p 80 → (y : Result (Found Clock) Refusal) → clock_at b (p + 32) ≡ y
            → its ≡ given make none mine
        clocked l (Ok y) h =
            sym (id_and_clock b p found none id time l refl refl h refl) ∙ same (value_at b p 32) y.value
            ∙ ap (given make none) (id_and_clock {x = Some (record { id = value_at b p 32; time = y.value })} b p own None "system_id" "time" l refl refl h refl)
        clocked l (Err f) h =
            sym (cut_system b 0 p (λ ts q. found ts) (λ f. none) id time end l refl h refl)
            ∙ ap (given make none) (cut_system {x = None} b 0 p (λ ts q. own ts) (λ f. None) "system_id" "time" end l refl h refl)

        go : (t : Bool) → within (length b) part.start part.count 10 index ≡ t
            → cond t its none ≡ given make none (cond t mine None)
        go true h =
            let w = holds _ _ _ _ _ h in
            clocked (record { short = w.short; fits = omega (arith, w.fits) }) (clock_at b (p + 32)) refl
        go false h = refl

    -- so of what `system_at` answers
    pub named_as : {r : Option System} {x : A} {y : Option System} (b : List ℕ) (part : Part) (index : ℕ)
        → r ≡ system_at b part index → r ≡ y
        → x ≡ given make none y → x ≡ element_at 10 (system id time end) found none b part index
    named_as b part index e m q = q ∙ ap (given make none) (sym m ∙ e) ∙ sym (named b part index)
