-- What the ledger reader answers and leaves, by the ledger's measure and what is laid the second time.
-- Assumes nothing.
use Prim.Native.Nat.{ℕ, ◌+◌, ◌≤◌}
use mathlib.Core.Path.{◌≡◌, refl, sym, ap, ◌∙◌, subst}
use mathlib.Core.Bool.{Bool, true, false, cond}
use mathlib.Core.List.{List, [], ◌∷◌, ◌++◌}
use native.Mathlib.Omega.{arith}
use lib.ListN.{length, drop, length-append}
use lib.Dec.{leb}
use borrow.Author.Tests.{le-leb, leb-true}
use Rattle.std.specs.Prelude.{Result, Ok, Err}
use Rattle.format.specs.Digits.{digits, Below, bits_of, bytes_of, splice}
use Rattle.format.specs.Refusals.{refuse}
use Rattle.format.specs.Syntax.{Parse, got, refused, and_then}
use Rattle.format.specs.declared.Edition.{Edition}
use Rattle.format.specs.Whole.{layout, Layout, layout_before, Table, body_of, content_of, version, ledger_of, content_as, id_of, edition_of, ledger_read}
use Rattle.format.specs.Calls.{done, Fitted, answer, left, restored, read_answer, read_left}
use Rattle.format.specs.declared.Refusal.{Refusal}
use Rattle.format.specs.declared.Output.{Output}
use Rattle.format.specs.declared.Fault.TheVariants.{BufferTooShort}
use Rattle.format.proofs.DigitLaws.{length_digits, length_bits, bytes_bits, below_append, below_drop}
use Rattle.format.proofs.ParseLaws.{got_not_refused}
use Rattle.format.proofs.TableLaws.{FineLayout, fine_layout, fine_before_layout, content_before, GoodTable, form_of, kept_form_of, good_form_of, kept_bytes, content_again}
use Rattle.format.proofs.Demand.{ledger_all, ledger_again, read_accepted, accepted_good, ledger_length}
use Rattle.bits.proofs.Groups.{bits_splice}
use Rattle.bits.proofs.Splices.{length_splice}
use Rattle.read_runs.specs.declared.step.Step.{Step}
use Rattle.ledger_reader.specs.Held.{Framed, bits_in, Holds}
use Rattle.ledger_reader.specs.Measured.{measured, measure_of}
use Rattle.ledger_reader.proofs.Measuring.{body_bits}

-- ---- bytes by their bits

bits_same : (xs ys : List ℕ) → Below 256 xs → Below 256 ys → length xs ≡ length ys → bits_of xs ≡ bits_of ys → xs ≡ ys
bits_same xs ys hx hy n e =
    sym (bytes_bits xs [] hx) ∙ ap (λ (k : ℕ). bytes_of k (bits_of xs ++ [])) n ∙ ap (λ (b : List ℕ). bytes_of (length ys) (b ++ [])) e ∙ bytes_bits ys [] hy

below_front : (out b : List ℕ) → Below 256 out → Below 256 b → Below 256 (splice out 0 b)
unfolding splice
below_front out b ho hb = below_append 256 b (drop (0 + length b) out) hb (below_drop 256 (0 + length b) out ho)

-- bits stored at a buffer's start are bytes stored there
bytes_front : (out out' b : List ℕ) → Below 256 out → Below 256 out' → Below 256 b → length out' ≡ length out → length b ≤ length out
    → bits_of out' ≡ splice (bits_of out) 0 (bits_of b) → out' ≡ splice out 0 b
bytes_front out out' b ho ho' hb n m e =
    bits_same out' (splice out 0 b) ho' (below_front out b ho hb) (n ∙ sym (length_splice out 0 b (omega arith))) (e ∙ sym (bits_splice out 0 b))

body_bytes : {k : Layout} {t : Table} (ed : Edition) → FineLayout k → GoodTable k t → Below 256 (body_of ed t)
body_bytes {t = t} ed x g = subst (Below 256) (kept_form_of ed t) (kept_bytes (good_form_of ed x g))

-- ---- a ledger that has a measure

pub record Sized (l : List ℕ) (o : Output) : Type 0 where
  pub table : Table
  pub reads : ledger_read l ≡ got table []
  pub same : o.table_id ≡ id_of l
  pub size : o.length ≡ length (body_of (edition_of l) table)

pub has_size : {l : List ℕ} {o : Output} → Ok o ≡ measure_of l → Sized l o
unfolding measure_of restored
has_size {l} {o} e = go (ledger_read l) refl e
  where
    go : (p : Parse Table) → ledger_read l ≡ p → Ok o ≡ measured (id_of l) (and_then p (λ t rest. got (body_of (edition_of l) t) [])) → Sized l o
    go (got t rest) r z = record { table = t; reads = r ∙ ap (got t) (ledger_all l r); same = cc; size = cc }
    go (refused x y w) r z = let o : ◌≡◌ {A = ℕ} 0 1 = cc in absurd (omega arith)

module _ {l : List ℕ} {o : Output} (x : Sized l o) (b : Below 256 l) where
  -- the layout without its tests, by which a ledger's fields are good
  fine : FineLayout (layout_before (layout (id_of l)))
  fine = fine_before_layout (layout (id_of l)) (fine_layout (id_of l))

  good : GoodTable (layout_before (layout (id_of l))) x.table
  good = (accepted_good fine (read_accepted l x.table b x.reads).0).0

  pub sized_framed : Framed l
  unfolding ledger_of
  sized_framed =
      let t = x.table in
      let a = read_accepted l t b x.reads in
      let c = accepted_good fine a.0 in
      let z : length (ledger_of (edition_of l) (id_of l) t) ≡ length l = ap length a.1 in
      record {
        four = omega (arith, z, length-append (digits 256 2 (length (content_of (edition_of l) t) + 2)) (version (edition_of l) ∷ id_of l ∷ content_of (edition_of l) t), length_digits 256 2 (length (content_of (edition_of l) t) + 2));
        short = omega (arith, z, ledger_length (edition_of l) fine a.0, c.1, c.2);
      }

  content : content_as (edition_of l) (length l) (layout (id_of l)) (drop 4 l) ≡ got x.table []
  unfolding ledger_of digits
  content =
      let t = x.table in
      let a = read_accepted l t b x.reads in
      let c = accepted_good fine a.0 in
      let q : got (form_of (edition_of l) t) [] ≡ got t [] = sym (ledger_again (edition_of l) a.0) ∙ ap ledger_read a.1 ∙ x.reads in
      let z : form_of (edition_of l) t ≡ t = cc in
      let d : drop 4 l ≡ content_of (edition_of l) t = ap (drop 4) (sym a.1) in
      rw d (sym (content_before (edition_of l) (length l) (layout (id_of l)) (content_of (edition_of l) t))
      ∙ content_again (edition_of l) (length l) fine good (omega (arith, c.1, c.2)) ∙ ap (λ (k : Table). got k []) z)

-- ---- the answer, and what is left in the buffer

abbrev pub Says : List ℕ → List ℕ → Result Output Refusal → List ℕ → Type 0
Says l out r out' = (r ≡ read_answer l (length out)) × (out' ≡ read_left l out)

pub says_no : {f : Refusal} {r : Result Output Refusal} (l out : List ℕ) → r ≡ Err f → Err f ≡ measure_of l → Says l out r out
unfolding measure_of restored read_answer read_left answer left
says_no {f} l out q e = rw q (go (ledger_read l) e)
  where
    go : (p : Parse Table) → Err f ≡ measured (id_of l) (and_then p (λ t rest. got (body_of (edition_of l) t) []))
        → (Err f ≡ answer (id_of l) (length out) (and_then p (λ t rest. got (body_of (edition_of l) t) [])))
        × (out ≡ left out (and_then p (λ t rest. got (body_of (edition_of l) t) [])))
    go (got t rest) z = let o : ◌≡◌ {A = ℕ} 0 1 = cc in absurd (omega arith)
    go (refused x y w) z = let f : f ≡ refuse x y w = cc in (ap Err f, refl)

module _ {l : List ℕ} {o : Output} (x : Sized l o) (out : List ℕ) where
  -- what `fitted` answers is the answer
  pub says : {r : Result Output Refusal} → Fitted o.table_id o.length (length out) r → r ≡ read_answer l (length out)
  unfolding restored read_answer
  says k = k.is (body_of (edition_of l) x.table) [] x.size ∙ rw (x.same, x.reads)

  -- where it is a refusal, the result is too long, and the buffer stays as it was
  pub says_short : {r : Result Output Refusal} {f : Refusal} → r ≡ Err f → Fitted o.table_id o.length (length out) (Err f) → Says l out r out
  unfolding restored read_left answer left
  says_short {f = f} q k = (rw q (says k), rw x.reads (go _ _ _ _ (leb (length (body_of (edition_of l) x.table)) (length out)) (k.is (body_of (edition_of l) x.table) [] x.size)))
    where
      go : (i n w : ℕ) (b : List ℕ) (t : Bool) → Err f ≡ cond t (done i n) (Err (refuse BufferTooShort n w)) → out ≡ cond t (splice out 0 b) out
      go i n w b true e = let o : ◌≡◌ {A = ℕ} 0 1 = cc in absurd (omega arith)
      go i n w b false e = refl

  -- where it is not, there is room
  fits : {a : Output} → Fitted o.table_id o.length (length out) (Ok a) → o.length ≤ length out
  unfolding answer
  fits {a} k = rw x.size (go _ _ _ (leb (length (body_of (edition_of l) x.table)) (length out)) refl (k.is (body_of (edition_of l) x.table) [] x.size))
    where
      go : (i n w : ℕ) (t : Bool) → leb (length (body_of (edition_of l) x.table)) (length out) ≡ t → Ok a ≡ cond t (done i n) (Err (refuse BufferTooShort n w))
          → length (body_of (edition_of l) x.table) ≤ length out
      go i n w true h e = leb-true _ _ h
      go i n w false h e = let o : ◌≡◌ {A = ℕ} 0 1 = cc in absurd (omega arith)

  -- the second time, the same table is laid
  again : {j : Step} (out' : List ℕ) → content_as (edition_of l) (length l) (layout (id_of l)) (drop 4 l) ≡ got x.table []
      → bits_of (body_of (edition_of l) x.table) ≡ bits_in (edition_of l) x.table → o.length ≤ length out
      → Holds (bits_in (edition_of l)) l (content_as (edition_of l) (length l) (layout (id_of l)) (drop 4 l)) 0 out out' (Ok j)
      → bits_of out' ≡ splice (bits_of out) 0 (bits_of (body_of (edition_of l) x.table))
  again {j} out' c p m y =
      let z = y.to in
      let e : got z.what (drop j.place l) ≡ got x.table [] = sym z.reads ∙ c in
      let w : z.what ≡ x.table = cc in
      let f : bits_in (edition_of l) z.what ≡ bits_of (body_of (edition_of l) x.table) = ap (bits_in (edition_of l)) w ∙ sym p in
      z.bits (omega (arith, z.size, ap length f, length_bits (body_of (edition_of l) x.table), x.size)) ∙ ap (splice (bits_of out) 0) f

  -- what is laid, in the words that the ledger itself has for its edition and its table id
  abbrev Laying : Edition → List ℕ → Result Step Refusal → Type 0
  Laying ed out' r = Holds (bits_in ed) l (content_as ed (length l) (layout o.table_id) (drop 4 l)) 0 out out' r

  by_ledger : {ed : Edition} {out' : List ℕ} {r : Result Step Refusal} → ed ≡ edition_of l → Laying ed out' r
      → Holds (bits_in (edition_of l)) l (content_as (edition_of l) (length l) (layout (id_of l)) (drop 4 l)) 0 out out' r
  by_ledger {out' = out'} {r} e y =
      let z : Laying (edition_of l) out' r = subst (λ (ed : Edition). Laying ed out' r) e y in
      rw x.same at z

  -- and nothing is refused
  pub says_never : {ed : Edition} {out' : List ℕ} {g : Refusal} → Below 256 l → ed ≡ edition_of l → Laying ed out' (Err g) → ⊥
  says_never b e y = got_not_refused (sym (content x b) ∙ (by_ledger e y).to.reads)

  pub says_yes : {ed : Edition} {a : Output} {out' : List ℕ} {j : Step} → Below 256 l → Below 256 out → Below 256 out' → length out' ≡ length out
      → Fitted o.table_id o.length (length out) (Ok a) → ed ≡ edition_of l → Laying ed out' (Ok j) → Says l out (Ok a) out'
  unfolding restored read_left left
  says_yes {out' = out'} b ho ho' k fit e y =
      let t = x.table in
      let g = good x b in
      let m = fits fit in
      let p = body_bits (edition_of l) (fine x b) g in
      let e : out' ≡ splice out 0 (body_of (edition_of l) t) =
      bytes_front out out' (body_of (edition_of l) t) ho ho' (body_bytes (edition_of l) (fine x b) g) k (omega (arith, x.size))
      (again out' (content x b) p m (by_ledger e y)) in
      (says fit, rw (x.reads, ← x.size, le-leb o.length (length out) m) e)
