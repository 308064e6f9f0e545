-- The steps of a proof for fields that a bit reader reads one behind the other.
-- Assumes nothing.
use Rattle.std.proofs.Common.{◌≡◌, ℕ, ◌+◌, ◌-◌, ◌*◌, ◌≤◌, ◌<◌, Bool, true, false, cond, List, ◌∷◌, length, ap, sym, ◌∙◌, refl, zero-add, Fits, arith}
use Rattle.std.specs.Prelude.{Result, Ok, Err}
use Rattle.std.specs.Borrow.{Bor}
use lib.Dec.{T, leb}
use borrow.Author.Tests.{leb-true, leb-false}
use mir.Syntax.{Width}
use mir.Val.{bits}
use Rattle.format.specs.Refusals.{refuse}
use Rattle.format.specs.Syntax.{Name, Sign, Syntax, field, need, Field, num}
use Rattle.format.specs.At.{read, found_at}
use Rattle.format.specs.declared.Fault.{Fault}
use Rattle.format.specs.declared.Refusal.{Refusal}
use Rattle.format.specs.declared.Found.{Found}
use Rattle.bits.specs.Read.{read_at, Place, Room}
use Rattle.bits.proofs.Answers.{next_place, got_fits}
use Rattle.bits.proofs.Reading as plain
use Rattle.bit_reader.specs.Readers.{start_of, moved, reads, value_alone, place_after, enough_at}
use Rattle.bit_reader.specs.declared.BitReader.{BitReader}

-- a reader's answer, and its place afterwards, tell what was found; y: that
took : {r : Result ℕ Refusal} {q' : BitReader} {v : ℕ} (q : BitReader) (y : Result (Found ℕ) Refusal)
    → r ≡ value_alone y
    → q' ≡ moved q (place_after y q.bit_pos) → r ≡ Ok v → y ≡ found_at v q'.bit_pos
unfolding value_alone place_after
took {v = v} q (Ok x) e m o =
    let a : ◌≡◌ {A = Result ℕ Refusal} (Ok v) (Ok x.value) = sym o ∙ e in
    let one : v ≡ x.value = cc in
    rw (one, ap (λ (r : BitReader). r.bit_pos) m) refl
took {v = v} q (Err f) e m o = let a : ◌≡◌ {A = Result ℕ Refusal} (Ok v) (Err f) = sym o ∙ e in cc

refused : {r : Result ℕ Refusal} {f : Refusal} (y : Result (Found ℕ) Refusal) → r ≡ value_alone y → r ≡ Err f
    → y ≡ Err f
unfolding value_alone
refused {f = f} (Ok x) e o = let a : ◌≡◌ {A = Result ℕ Refusal} (Err f) (Ok x.value) = sym o ∙ e in cc
refused {f = f} (Err g) e o = let a : ◌≡◌ {A = Result ℕ Refusal} (Err f) (Err g) = sym o ∙ e in cc

same_body : (q : BitReader) {q' : BitReader} (n : ℕ) → q' ≡ moved q n → q'.«data».now ≡ q.«data».now
same_body q n m = ap (λ (r : BitReader). r.«data».now) m

-- reading goes on behind what was read, and a number of w bits fits a type at least as wide
pub next_reader : {r : Result ℕ Refusal} {q' : BitReader} {v : ℕ} (q : BitReader) (w : ℕ) → r ≡ value_alone (reads q w)
    → q' ≡ moved q (place_after (reads q w) q.bit_pos) → r ≡ Ok v → Place q.«data».now q.bit_pos
    → Place q'.«data».now q'.bit_pos
next_reader {q' = q'} q w e m o l = rw (same_body q _ m) (next_place q.bit_pos w (took q (reads q w) e m o) refl l.short)

pub took_fits : {r : Result ℕ Refusal} {q' : BitReader} {v : ℕ} {t : Width} (q : BitReader) (w : ℕ)
    → r ≡ value_alone (reads q w)
    → q' ≡ moved q (place_after (reads q w) q.bit_pos) → r ≡ Ok v → T (leb w (bits t)) → Fits t v
took_fits q w e m o h = got_fits q.«data».now q.bit_pos w (took q (reads q w) e m o) refl h

-- a new reader that skipped to a place
pub at_place : {b : Bor (List ℕ)} {k q : BitReader} {at : ℕ} → k ≡ start_of b → q ≡ moved k (k.bit_pos + at)
    → Place b.now at → Place q.«data».now q.bit_pos
at_place {b} {k} {q} {at} m n l = rw (n, m, zero-add at) l

-- ---- the test that a group is there, passed or not

module _ {r : Result (Unit {0}) Refusal} (b : List ℕ) (p w : ℕ) (a : Fault) (e : r ≡ enough_at b p a w) where
  pub had : {t : Unit {0}} → r ≡ Ok t → w ≤ 8 * length b - p
  unfolding enough_at
  had {t} m = go (leb w (8 * length b - p)) refl (sym m ∙ e)
    where
      go : (y : Bool) → leb w (8 * length b - p) ≡ y
          → Ok t ≡ cond y (Ok (tt {0})) (Err (refuse a w (8 * length b - p))) → w ≤ 8 * length b - p
      go true h q = leb-true _ _ h
      go false h q = cc

  pub lacked : {f : Refusal} → r ≡ Err f → (8 * length b - p < w) × (f ≡ refuse a w (8 * length b - p))
  unfolding enough_at
  lacked {f} m = go (leb w (8 * length b - p)) refl (sym m ∙ e)
    where
      go : (y : Bool) → leb w (8 * length b - p) ≡ y
          → Err f ≡ cond y (Ok (tt {0})) (Err (refuse a w (8 * length b - p)))
          → (8 * length b - p < w) × (f ≡ refuse a w (8 * length b - p))
      go true h q = cc
      go false h q = (leb-false _ _ h, cc)

-- what was found to be there can be read
pub enough_room : {r : Result (Unit {0}) Refusal} {t : Unit {0}} (b : List ℕ) (p w : ℕ) (a : Fault)
    → r ≡ enough_at b p a w → r ≡ Ok t → Place b p → Room b p w
enough_room b p w a e m l = let h = had b p w a e m in record { short = l.short; fits = omega (arith, l.within) }

module _ {A : Type 0} {x : A} (b : List ℕ) (e p : ℕ) (found : List Field → ℕ → A) (fail : Refusal → A) where
  -- a field that the reader q read, or found cut short
  pub took_field : {r : Result ℕ Refusal} {q q' : BitReader} {v : ℕ} (g : Sign) (nm : Name) (w : ℕ) (k : ℕ → Syntax)
      → q' ≡ moved q (place_after (reads q w) q.bit_pos)
      → r ≡ value_alone (reads q w) → r ≡ Ok v → q.«data».now ≡ b → q.bit_pos ≡ p
      → x ≡ read q'.«data».now e (k v) q'.bit_pos (λ ts. found (num g nm w v ∷ ts)) fail
      → x ≡ read b e (field g nm w k) p found fail
  took_field {q = q} {q'} g nm w k m a o one two h =
      rw (← one, ← two) (plain.got q.«data».now e q.bit_pos found fail g nm w k refl (took q (reads q w) a m o) (rw (same_body q _ m) at h))

  pub cut_field : {r : Result ℕ Refusal} {f : Refusal} (g : Sign) (nm : Name) (w : ℕ) (k : ℕ → Syntax) → r ≡ Err f
      → r ≡ value_alone (read_at b p w) → Place b p → x ≡ fail f → x ≡ read b e (field g nm w k) p found fail
  cut_field g nm w k o a l h = plain.cut b e p found fail g nm w k l refl (refused _ a o) h

  -- a group that is there, or is not
  pub enough : {r : Result (Unit {0}) Refusal} {t : Unit {0}} (a : Fault) (w : ℕ) (k : Syntax) → r ≡ enough_at b p a w
      → r ≡ Ok t
      → x ≡ read b e k p found fail → x ≡ read b e (need a w k) p found fail
  enough a w k c m h = plain.enough b e p found fail a w k (had b p w a c m) h

  pub short : {r : Result (Unit {0}) Refusal} {f : Refusal} (a : Fault) (w : ℕ) (k : Syntax) → r ≡ enough_at b p a w
      → r ≡ Err f
      → x ≡ fail f → x ≡ read b e (need a w k) p found fail
  short a w k c m h = let o = lacked b p w a c m in plain.short b e p found fail a w k o.0 (h ∙ ap fail o.1)

-- a reader that skipped to a place reads on from there
pub from_place : {A : Type 0} {x : A} {b : Bor (List ℕ)} {k q : BitReader} (e at : ℕ) (s : Syntax) (found : List Field → ℕ → A) (fail : Refusal → A)
    → k ≡ start_of b → q ≡ moved k (k.bit_pos + at) → x ≡ read q.«data».now e s q.bit_pos found fail
    → x ≡ read b.now e s at found fail
from_place e at s found fail m n h = rw (n, m, zero-add at) at h

pub ruleset groups = (enough_room, enough, short)
