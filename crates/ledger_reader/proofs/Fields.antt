-- The fields of a table under each layout, and nothing over behind them.
-- Assumes nothing.
use Prim.Native.Nat.{ℕ, ◌-◌, ◌*◌, ◌≤◌, ◌<◌}
use mathlib.Core.Path.{◌≡◌, refl, sym, ap, ◌∙◌}
use mathlib.Core.Bool.{Bool, true, false, cond}
use mathlib.Core.List.{List, []}
use native.Mathlib.Omega.{arith}
use lib.Dec.{leb}
use lib.ListN.{length, drop, length-append, length-drop, drop_of_length-le}
use lib.Seq.{drop-length}
use borrow.Author.Tests.{ne_eqb}
use Rattle.std.specs.Prelude.{Result, Ok, Err}
use Rattle.format.specs.Digits.{bits_of, splice}
use Rattle.format.specs.Refusals.{refuse}
use Rattle.format.specs.Syntax.{Syntax, end, Parse, got, refused, and_then}
use Rattle.format.specs.declared.Edition.{Edition}
use Rattle.format.specs.Body.{laid}
use Rattle.format.specs.Ledger.{read_ledger, grant}
use Rattle.format.specs.Whole.{Layout, sole, many, opaque, one, list, as_it_is, laids, ended, content_as}
use Rattle.format.specs.declared.Refusal.{Refusal}
use Rattle.format.specs.declared.Fault.TheVariants.{LedgerMisfit}
use Rattle.format.proofs.DigitLaws.{length_bits}
use Rattle.bits.proofs.Splices.{splice_splice, splice_nil}
use Rattle.bits.proofs.Groups.{bits_splice}
use Rattle.runs.specs.Stored.{stored}
use Rattle.read_runs.specs.declared.step.Step.{Step}
use Rattle.runs.proofs.Stores.{stored_fits}
use Rattle.read_runs.specs.Came.{Way, way_of, Halted}
use Rattle.read_runs.proofs.CameLaws.{laid_none}
use Rattle.read_plans.specs.Taken.{Took, Taken}
use Rattle.ledger_reader.specs.Held.{listing, fields_as, bits_in, Held, Refuses, Holds}

-- ---- fields

module _ {ed : Edition} {l out out' : List ℕ} where
  -- one set of fields
  pub sole_holds : {s : Syntax} {r : Result Step Refusal} → Taken (way_of ed true) l s 4 0 out out' r → Holds (bits_in ed) l (fields_as ed (length l) (sole s) (drop 4 l)) 0 out out' r
  sole_holds {r = Ok j} x =
      let w = x.to.took in
      record { to = record { what = one w.ts; reads = rw w.reads; size = w.size; bits = w.bits; within = w.within } }
  sole_holds {r = Err f} x = record { to = record { reads = rw x.to.reads } }

module _ (ed : Edition) {l out out' : List ℕ} where
  -- raw bytes
  pub opaque_holds : 4 ≤ length l → out' ≡ stored out 0 (drop 4 l)
      → Held (bits_in ed) l (fields_as ed (length l) opaque (drop 4 l)) 0 out (length l) (8 * (length l - 4)) out'
  opaque_holds h b =
      let n = length_bits (drop 4 l) in
      record {
        what = as_it_is (drop 4 l);
        reads = ap (got (as_it_is (drop 4 l))) (sym (drop-length l));
        size = omega (arith, length-drop 4 l);
        bits = λ r. ap bits_of (b ∙ stored_fits out 0 (drop 4 l) (omega (arith, length-drop 4 l))) ∙ bits_splice out 0 (drop 4 l);
        within = omega arith;
      }

-- no head is read as one of no fields
pub no_head : {way : Way} {l out : List ℕ} → 4 ≤ length l → Took way l end 4 0 out 4 0 out
unfolding read_ledger
no_head {way} {out = out} h =
    record {
      ts = [];
      reads = refl;
      size = omega (arith, ap length (laid_none way.edition));
      bits = λ _. sym (rw (laid_none way.edition) (splice_nil (bits_of out) 0));
      long = refl;
      within = h;
      slack = omega arith;
    }

-- the test of the count's bytes stands in front of what is made of the entries
grant_then : {A B : Type 0} (n : ℕ) (bs : List ℕ) (p : Parse A) (k : A → List ℕ → Parse B) → grant n 2 true bs (and_then p k) ≡ and_then (grant n 2 true bs p) k
grant_then n bs p k = go (leb 2 (length bs))
  where
    go : (t : Bool) → cond t (and_then p k) (refused LedgerMisfit (n - length bs) 0) ≡ and_then (cond t p (refused LedgerMisfit (n - length bs) 0)) k
    go true = refl
    go false = refl

module _ (m : ℕ) (s : Syntax) {ed : Edition} {l : List ℕ} {h : Syntax} where
  pub head_no : {f : Refusal} → Halted (way_of ed false) l h 4 f → Refuses (fields_as ed (length l) (many h m s) (drop 4 l)) f
  head_no x = record { reads = rw x.reads }

  module _ {out out₁ : List ℕ} {place at : ℕ} (w : Took (way_of ed false) l h 4 0 out place at out₁) where
    after_head : fields_as ed (length l) (many h m s) (drop 4 l) ≡ and_then (listing ed (length l) s (drop place l)) (λ es over. got (list w.ts es) over)
    after_head = rw w.reads (grant_then (length l) (drop place l) _ (λ es over. got (list w.ts es) over))

    -- the head's fields and the entries behind them
    pub list_holds : {out' : List ℕ} {r : Result Step Refusal} → Holds (laids ed) l (listing ed (length l) s (drop place l)) at out₁ out' r
        → Holds (bits_in ed) l (fields_as ed (length l) (many h m s) (drop 4 l)) 0 out out' r
    list_holds {r = Err f} x = record { to = record { reads = after_head ∙ rw x.to.reads } }
    list_holds {out'} {r = Ok j} x =
        let y = x.to in
        let b = laid ed w.ts in
        let c = laids ed y.what in
        let z = w.size in
        let z' = y.size in
        record {
          to = record {
            what = list w.ts y.what;
            reads = after_head ∙ rw y.reads;
            size = omega (arith, length-append b c);
            bits = λ r. y.bits (omega (arith, w.long)) ∙ ap (λ (o : List ℕ). splice o at c) (w.bits (omega arith))
                ∙ splice_splice (bits_of out) 0 b c at w.size (omega (arith, length_bits out));
            within = y.within;
          };
        }

-- ---- nothing over

content_ended : (ed : Edition) (n : ℕ) (k : Layout) (bs : List ℕ) → content_as ed n k bs ≡ ended n (fields_as ed n k bs)
unfolding content_as
content_ended ed n (sole s) bs = refl
content_ended ed n (many h m s) bs = refl
content_ended ed n opaque bs = refl

module _ (ed : Edition) (k : Layout) (l : List ℕ) where
  pub content_no : {g : Refusal} → Refuses (fields_as ed (length l) k (drop 4 l)) g → Refuses (content_as ed (length l) k (drop 4 l)) g
  content_no x = record { reads = content_ended ed (length l) k (drop 4 l) ∙ rw x.reads }

  module _ {out out' : List ℕ} {place at : ℕ} (x : Held (bits_in ed) l (fields_as ed (length l) k (drop 4 l)) 0 out place at out') where
    pub content_over : place < length l → Refuses (content_as ed (length l) k (drop 4 l)) (refuse LedgerMisfit place 0)
    content_over h =
        let e : length l - length (drop place l) ≡ place = omega (arith, length-drop place l) in
        record { reads = content_ended ed (length l) k (drop 4 l) ∙ rw (x.reads, ne_eqb (length (drop place l)) 0 (λ z. omega (arith, length-drop place l)), e) }

    pub content_held : length l ≤ place → Held (bits_in ed) l (content_as ed (length l) k (drop 4 l)) 0 out place at out'
    content_held h =
        let z : drop place l ≡ [] = drop_of_length-le l {i = place} h in
        record {
          what = x.what;
          reads = content_ended ed (length l) k (drop 4 l) ∙ rw (x.reads, z);
          size = x.size;
          bits = x.bits;
          within = x.within;
        }
