-- Slots and raw bytes gone over, and the last fields of a plan.
-- Assumes nothing.
use Prim.Native.Nat.{ℕ, ◌+◌, ◌-◌, ◌*◌, ◌/◌, ◌%◌, ◌≤◌, ◌<◌}
use mathlib.Core.Path.{◌≡◌, refl, sym, ap, ◌∙◌, subst}
use mathlib.Core.Bool.{Bool, true, false, cond}
use mathlib.Core.List.{List, [], ◌∷◌, ◌++◌, append-nil}
use native.Mathlib.Omega.{arith}
use Rattle.std.proofs.Common.{Result, Ok, Err}
use lib.Dec.{leb}
use lib.ListN.{length, take, drop, length-append}
use lib.Seq.{drop-drop, length-take-le}
use borrow.Author.Tests.{le-leb, lt-leb, leb-true}
use Rattle.format.specs.Digits.{digits, bits_of, bytes_of, splice}
use Rattle.format.specs.Refusals.{refuse}
use Rattle.format.specs.Syntax.{Name, Syntax, end, slots, raw, flags, bytes}
use Rattle.format.specs.Body.{wholes, read_body}
use Rattle.format.specs.Ledger.{counted_bytes, ledger}
use Rattle.format.specs.declared.Fault.TheVariants.{SlotsCut}
use Rattle.format.proofs.DigitLaws.{length_bytes, length_digits}
use Rattle.format.proofs.Good.{ledger_append}
use Rattle.format.proofs.ReadLaws.{rest_at, place_at}
use Rattle.bits.proofs.Splices.{splice_splice, splice_nil}
use Rattle.runs.specs.Stored.{stored}
use Rattle.format.specs.declared.Refusal.{Refusal}
use Rattle.runs.proofs.Stores.{stored_length, digits_fit}
use Rattle.write_runs.specs.declared.step.Step.{Step}
use Rattle.write_runs.specs.Went.{Around, pushes, Went, Stopped, Ran}
use Rattle.write_runs.proofs.WentLaws.{Same, pushes_append, pushes_got, pushes_refused}
use Rattle.write_plans.specs.Slots.{filled_bits, packed_bits}
use Rattle.write_plans.specs.Appended.{Appended}
use Rattle.write_plans.specs.Ragged.{Tail, Ragged}
use Rattle.write_plans.proofs.Packing.{packed_fit}

-- ---- slots

pub slots_done : {body : List ℕ} {e : Around} (nm : Name) (s : Syntax) {at place m : ℕ} {out out' : List ℕ} → at % 8 ≡ 0 → at + m ≤ 8 * length body
    → out' ≡ stored out place (packed_bits body at m)
    → Went body e (slots nm SlotsCut m s) at place out s (at + 8 * wholes m) (place + wholes m) out'
unfolding pushes read_body ledger
slots_done {body} {e} nm s {at} {place} {m} {out} {out'} a h b =
    let d = drop at (bits_of body) in
    let ld : length d ≡ 8 * length body - at = rest_at body at in
    let lt : length (take m d) ≡ m = length-take-le m d (omega arith) in
    let one : ledger e.edition (flags nm (take m d) ∷ []) ≡ packed_bits body at m = rw lt (append-nil (packed_bits body at m)) in
    record {
      ts = flags nm (take m d) ∷ [];
      reads = rw (le-leb m (length d) (omega arith), drop-drop (8 * wholes m) at (bits_of body));
      size = omega (arith, ap length one ∙ length_bytes (wholes m) (filled_bits body at m));
      bytes = λ y. b ∙ packed_fit body out at m place y ∙ ap (splice out place) (sym one);
      long = ap length b ∙ stored_length out place (packed_bits body at m);
      within = omega arith;
      slack = omega arith;
    }

pub slots_no : (body : List ℕ) (e : Around) (at : ℕ) (nm : Name) (m : ℕ) (s : Syntax) → 8 * length body - at < m
    → Stopped body e (slots nm SlotsCut m s) at (refuse SlotsCut m (8 * length body - at))
unfolding read_body
slots_no body e at nm m s l = record { reads = rw (lt-leb m (length (drop at (bits_of body))) (omega (arith, rest_at body at)), rest_at body at) }

-- ---- bytes one behind the other

pub none_appended : (out : List ℕ) (place : ℕ) → Appended out place [] out place
none_appended out place = record { size = omega arith; bytes = λ _. sym (splice_nil out place); long = refl }

pub digits_appended : {out out' : List ℕ} {place : ℕ} (k v : ℕ) → out' ≡ stored out place (digits 256 k v) → Appended out place (digits 256 k v) out' (place + k)
digits_appended {out} {out'} {place} k v b =
    record { size = omega (arith, length_digits 256 k v); bytes = λ y. b ∙ digits_fit out place k v y; long = ap length b ∙ stored_length out place (digits 256 k v) }

-- ---- bytes behind their count

pub counted_length : (body : List ℕ) (at m : ℕ) → at + m ≤ 8 * length body → length (counted_bytes (take m (drop at (bits_of body)))) ≡ 2 + m / 8
counted_length body at m h =
    let bs : List ℕ = take m (drop at (bits_of body)) in
    let lt : length bs ≡ m = length-take-le m (drop at (bits_of body)) (omega (arith, rest_at body at)) in
    length-append (digits 256 2 (length bs / 8)) (bytes_of (length bs / 8) bs) ∙ omega (arith, lt, length_digits 256 2 (length bs / 8), length_bytes (length bs / 8) bs)

-- the count and the bytes, one store behind the other
pub counted_done : {out out₁ out' : List ℕ} {place : ℕ} (body : List ℕ) (at m : ℕ) → at + m ≤ 8 * length body → m % 8 ≡ 0
    → out₁ ≡ stored out place (digits 256 2 (m / 8)) → out' ≡ stored out₁ (place + 2) (packed_bits body at m)
    → Appended out place (counted_bytes (take m (drop at (bits_of body)))) out' (place + 2 + m / 8)
counted_done {out} {out₁} {out'} {place} body at m h a b b' =
    let d : List ℕ = drop at (bits_of body) in
    let lt : length (take m d) ≡ m = length-take-le m d (omega (arith, rest_at body at)) in
    let w : wholes m ≡ m / 8 = omega arith in
    let z : 8 * wholes m - m ≡ 0 = omega arith in
    let c : List ℕ = digits 256 2 (m / 8) in
    let x : List ℕ = bytes_of (m / 8) (take m d) in
    let p : packed_bits body at m ≡ x = rw (z, w, append-nil (take m d)) in
    let one : counted_bytes (take m d) ≡ c ++ x = rw lt in
    let n1 : length c ≡ 2 = length_digits 256 2 (m / 8) in
    let l : length out₁ ≡ length out = ap length b ∙ stored_length out place c in
    record {
      size = omega (arith, counted_length body at m h);
      bytes = λ y. b' ∙ packed_fit body out₁ at m (place + 2) (omega arith) ∙ ap (splice out₁ (place + 2)) p
          ∙ ap (λ (o : List ℕ). splice o (place + 2) x) (b ∙ digits_fit out place 2 (m / 8) (omega arith))
          ∙ splice_splice out place c x (place + 2) (omega arith) (omega arith) ∙ ap (splice out place) (sym one);
      long = ap length b' ∙ stored_length out₁ (place + 2) (packed_bits body at m) ∙ l;
    }

-- ---- raw bytes

-- m bits from a place on are there, and are whole bytes
pub record Raw (at n m : ℕ) : Type 0 where
  pub fits : at + m ≤ n
  pub whole : m % 8 ≡ 0

pub raw_fits : (at e n m : ℕ) → at ≤ n → at % 8 ≡ 0 → e % 8 ≡ 0 → m ≡ cond (leb e n) (e - at) 0 → Raw at n m
raw_fits at e n m h a b q = go (leb e n) refl q
  where
    go : (t : Bool) → leb e n ≡ t → m ≡ cond t (e - at) 0 → Raw at n m
    go true p q = record { fits = omega (arith, leb-true e n p); whole = omega arith }
    go false p q = record { fits = omega arith; whole = omega arith }

pub raw_done : {body out out' : List ℕ} {e : Around} {at place m p : ℕ} (nm : Name) → at ≤ 8 * length body → m ≡ cond (leb e.stop (8 * length body)) (e.stop - at) 0 → Raw at (8 * length body) m
    → Appended out place (counted_bytes (take m (drop at (bits_of body)))) out' p → Tail body e (raw nm) at place out (at + m) p out'
unfolding read_body ledger
raw_done {body} {out} {out'} {e} {at} {place} {m} nm h q r x =
    let bs : List ℕ = take m (drop at (bits_of body)) in
    let one : ledger e.edition (bytes nm bs ∷ []) ≡ counted_bytes bs = append-nil (counted_bytes bs) in
    record {
      ts = bytes nm bs ∷ [];
      reads = rw (place_at body at h, ← q, drop-drop m at (bits_of body));
      size = x.size ∙ ap (λ (y : List ℕ). place + length y) (sym one);
      bytes = λ y. x.bytes y ∙ ap (splice out place) (sym one);
      long = x.long;
      within = r.fits;
      slack = omega (arith, x.size, counted_length body at m r.fits, r.whole);
    }

-- ---- a plan's last fields

module _ {body : List ℕ} {e : Around} where
  pub as_ragged : {at place : ℕ} {s : Syntax} {out out' : List ℕ} {r : Result Step Refusal} → Ran body e s at place out (λ _. end) out' r → Ragged body e s at place out out' r
  unfolding read_body
  as_ragged {r = Ok v} x =
      let w = x.to.1 in
      record {
        to = (
          x.to.0,
          record {
            ts = w.ts;
            reads = w.reads ∙ pushes_got w.ts (drop v.at (bits_of body));
            size = w.size;
            bytes = w.bytes;
            long = w.long;
            within = w.within;
            slack = omega (arith, w.slack);
          },
        );
      }
  as_ragged {r = Err f} x = record { to = x.to }

  -- the reading starts in the same way
  pub ragged_as : {at place : ℕ} {s s₁ : Syntax} {out out' : List ℕ} {r : Result Step Refusal} → Same body e at s s₁ → Ragged body e s₁ at place out out' r → Ragged body e s at place out out' r
  ragged_as {r = Ok v} q x =
      let t = x.to.1 in
      record { to = (x.to.0, record { ts = t.ts; reads = q.reads ∙ t.reads; size = t.size; bytes = t.bytes; long = t.long; within = t.within; slack = t.slack }) }
  ragged_as {r = Err f} q x = record { to = record { reads = q.reads ∙ x.to.reads } }

  -- the last fields behind others that have two bits to spare
  behind_tail : {at place at₁ place₁ at₂ place₂ : ℕ} {s s₁ : Syntax} {out out₁ out₂ : List ℕ} → Went body e s at place out s₁ at₁ place₁ out₁
      → place₁ + at + 2 ≤ place + at₁ → Tail body e s₁ at₁ place₁ out₁ at₂ place₂ out₂ → Went body e s at place out end at₂ place₂ out₂
  unfolding read_body
  behind_tail {at} {place} {at₁} {place₁} {at₂} {place₂} {s} {s₁} {out} {out₁} {out₂} x g t =
      let u = x.ts in
      let w = t.ts in
      let l = ap length (ledger_append e.edition u w) ∙ length-append (ledger e.edition u) (ledger e.edition w) in
      let z = x.size in
      let z' = t.size in
      record {
        ts = u ++ w;
        reads = x.reads ∙ ap (pushes u) (t.reads ∙ sym (pushes_got w (drop at₂ (bits_of body)))) ∙ sym (pushes_append u w _);
        size = omega arith;
        bytes = λ h. t.bytes (omega (arith, x.long)) ∙ ap (λ (m : List ℕ). splice m place₁ (ledger e.edition w)) (x.bytes (omega arith))
            ∙ splice_splice out place (ledger e.edition u) (ledger e.edition w) place₁ x.size (omega arith) ∙ ap (splice out place) (sym (ledger_append e.edition u w));
        long = t.long ∙ x.long;
        within = t.within;
        slack = omega (arith, t.slack);
      }

  behind_ragged : {at place at₁ place₁ : ℕ} {s s₁ : Syntax} {out out₁ out₂ : List ℕ} {r : Result Step Refusal} → Went body e s at place out s₁ at₁ place₁ out₁
      → place₁ + at + 2 ≤ place + at₁ → Ragged body e s₁ at₁ place₁ out₁ out₂ r → Ran body e s at place out (λ _. end) out₂ r
  behind_ragged {r = Ok v} x g y = record { to = (y.to.0, behind_tail x g y.to.1) }
  behind_ragged {r = Err f} x g y =
      record { to = record { reads = x.reads ∙ ap (pushes x.ts) y.to.reads ∙ pushes_refused x.ts f.fault f.need f.have } }

  pub then_ragged : {at place : ℕ} {s : Syntax} {out out₁ out₂ : List ℕ} {k : ℕ → Syntax} {x : Step} {r : Result Step Refusal} → Ran body e s at place out k out₁ (Ok x)
      → x.place + at + 2 ≤ place + x.at → Ragged x.body.now e (k x.last) x.at x.place out₁ out₂ r → Ran body e s at place out (λ _. end) out₂ r
  then_ragged {out₁ = out₁} {out₂} {k} {x} {r} y g t =
      behind_ragged y.to.1 g (subst (λ (b : List ℕ). Ragged b e (k x.last) x.at x.place out₁ out₂ r) y.to.0 t)
