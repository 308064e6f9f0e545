-- Entries of a ledger laid one after the other: the turns of `read_entries`, and the count in front of them.
-- Assumes nothing.
use Prim.Native.Nat.{ℕ, suc, ◌+◌, ◌-◌, ◌*◌, ◌%◌, ◌≤◌, ◌<◌}
use mathlib.Core.Path.{◌≡◌, refl, sym, ap, ◌∙◌, subst}
use mathlib.Core.Bool.{Bool, true, false}
use mathlib.Core.List.{List, [], ◌∷◌, ◌++◌, append_assoc, append-nil}
use native.Mathlib.Nat.{sub-zero}
use native.Mathlib.Omega.{arith}
use lib.Dec.{eqb}
use lib.ListN.{length, take, drop, length-append, length-drop}
use lib.Seq.{drop-drop}
use borrow.Author.Tests.{le-leb, eq-eqb, ne_eqb, eqb-true, eqb-false}
use borrow.Rule.Slice.PartMut.{mid_of, put_mid, same_len_mid}
use Rattle.std.specs.Prelude.{Result, Ok, Err}
use Rattle.format.specs.Digits.{Below, value, bits_of, splice}
use Rattle.format.specs.Syntax.{Syntax, Field, Parse, got, refused, and_then, push}
use Rattle.format.specs.declared.Edition.{Edition}
use Rattle.format.specs.Body.{laid}
use Rattle.format.specs.Ledger.{read_ledger}
use Rattle.format.specs.Whole.{laids, counted}
use Rattle.format.specs.declared.Refusal.{Refusal}
use Rattle.format.proofs.DigitLaws.{length_bits}
use Rattle.format.proofs.Good.{Fine}
use Rattle.bits.proofs.Splices.{splice_splice, splice_nil}
use Rattle.read_runs.specs.declared.step.Step.{Step}
use Rattle.read_runs.specs.Came.{Way, way_of}
use Rattle.read_runs.proofs.Lent.{Starts, lent_bits}
use Rattle.read_runs.proofs.Moved.{read_whole}
use Rattle.read_plans.specs.Taken.{Took, Taken, TakenFrom}
use Rattle.ledger_reader.specs.Held.{listing, Held, Refuses, Holds}

-- ---- what is known of an answer

module _ {A : Type 0} {f : A → List ℕ} {l : List ℕ} {p : Parse A} {at : ℕ} {out out' : List ℕ} {r : Result Step Refusal} where
  pub holds_no : {g : Refusal} → r ≡ Err g → Refuses p g → Holds f l p at out out' r
  holds_no e x = rw e (record { to = x })

  -- the same reading in other words
  pub holds_as : {p₁ : Parse A} → p ≡ p₁ → Holds f l p₁ at out out' r → Holds f l p at out out' r
  holds_as e x = subst (λ (p : Parse A). Holds f l p at out out' r) (sym e) x

-- a list in a ledger that is known by another name
pub list_in : {m l : List ℕ} {at : ℕ} {out out' : List ℕ} {r : Result Step Refusal} (ed : Edition) (s : Syntax) (place : ℕ) → m ≡ l
    → Holds (laids ed) m (listing ed (length m) s (drop place m)) at out out' r → Holds (laids ed) l (listing ed (length l) s (drop place l)) at out out' r
list_in {at = at} {out} {out'} {r} ed s place e x = subst (λ (z : List ℕ). Holds (laids ed) z (listing ed (length z) s (drop place z)) at out out' r) e x

-- ---- one entry, in a part of the buffer that is lent

-- an entry is whole bytes
pub took_whole : {way : Way} {l out out' : List ℕ} {s : Syntax} {place p at a : ℕ} → Fine false 0 0 s → Below 256 l → at % 8 ≡ 0 → Took way l s place at out p a out' → a % 8 ≡ 0
took_whole {way} {l} {s = s} {place} f b h w = omega (arith, w.size, read_whole way.edition way.last l s place f b w.reads)

pub lent_took : {way : Way} {l part : List ℕ} {s : Syntax} {place p size : ℕ} (out : List ℕ) (from here : ℕ) → Starts from here out → here % 8 ≡ 0
    → Took way l s place 0 (mid_of from (length out - from) out) p size part → Took way l s place here out p (here + size) (put_mid from (length out - from) out part)
lent_took {way} {part = part} {size = size} out from here h a w =
    record {
      ts = w.ts;
      reads = w.reads;
      size = omega (arith, w.size);
      bits = lent_bits out from here h a part (laid way.edition w.ts) size (omega (arith, w.size)) w.long w.bits;
      long = same_len_mid from (length out - from) out part w.long;
      within = w.within;
      slack = omega (arith, w.slack);
    }

-- ---- entries

laids_more : (ed : Edition) (es : List (List Field)) (ts : List Field) → laids ed (es ++ (ts ∷ [])) ≡ laids ed es ++ laid ed ts
unfolding laids
laids_more ed [] ts = append-nil (laid ed ts)
laids_more ed (us ∷ es) ts = rw (laids_more ed es ts) (sym (append_assoc (laid ed us) (laids ed es) (laid ed ts)))

laids_nil : (ed : Edition) → laids ed [] ≡ []
unfolding laids
laids_nil ed = refl

-- entries in front of those that a reading gives
abbrev behind : List (List Field) → Parse (List (List Field)) → Parse (List (List Field))
behind es p = and_then p (λ us rest. got (es ++ us) rest)

behind_none : (p : Parse (List (List Field))) → p ≡ behind [] p
behind_none (got us rest) = refl
behind_none (refused x y z) = refl

behind_more : (es : List (List Field)) (ts : List Field) (p : Parse (List (List Field))) → behind es (push ts p) ≡ behind (es ++ (ts ∷ [])) p
behind_more es ts (got us rest) = ap (λ (x : List (List Field)). got x rest) (sym (append_assoc es (ts ∷ []) us))
behind_more es ts (refused x y z) = refl

counted_next : (ed : Edition) (n c : ℕ) (s : Syntax) (bs : List ℕ) → counted ed n s (suc c) bs ≡ and_then (read_ledger ed (eqb c 0) n s bs) (λ ts rest. push ts (counted ed n s c rest))
unfolding counted
counted_next ed n c s bs = refl

counted_none : (ed : Edition) (n : ℕ) (s : Syntax) (bs : List ℕ) → counted ed n s 0 bs ≡ got [] bs
unfolding counted
counted_none ed n s bs = refl

-- entry i of so many is the last if none is left behind it
last_by : (i count : ℕ) → i < count → eqb (count - (i + 1)) 0 ≡ eqb (i + 1) count
last_by i count h = go (eqb (i + 1) count) refl
  where
    go : (t : Bool) → eqb (i + 1) count ≡ t → eqb (count - (i + 1)) 0 ≡ t
    go true q = eq-eqb (count - (i + 1)) 0 (omega (arith, eqb-true (i + 1) count q))
    go false q = ne_eqb (count - (i + 1)) 0 (λ z. eqb-false (i + 1) count q (omega arith))

-- where the entries stand: es are laid, and count - i are left
pub record Counting (ed : Edition) (s : Syntax) (from : Step) (count : ℕ) (out₀ : List ℕ) (step : Step) (i : ℕ) (out : List ℕ) : Type 0 where
  pub es : List (List Field)
  pub walked : counted ed (length from.ledger.now) s count (drop from.place from.ledger.now)
      ≡ behind es (counted ed (length from.ledger.now) s (count - i) (drop step.place from.ledger.now))
  pub same : step.ledger.now ≡ from.ledger.now
  pub size : step.at ≡ from.at + length (laids ed es)
  pub bits : step.at ≤ 8 * length out₀ → bits_of out ≡ splice (bits_of out₀) from.at (laids ed es)
  pub long : length out ≡ length out₀
  pub ahead : step.at + 8 ≤ 8 * step.place
  pub aligned : step.at % 8 ≡ 0

pub begin : {ed : Edition} {out : List ℕ} {s : Syntax} (count : ℕ) (from : Step) → from.at + 8 ≤ 8 * from.place → from.at % 8 ≡ 0 → Counting ed s from count out from 0 out
begin {ed} {out} {s} count from p h =
    record {
      es = [];
      walked = rw (sub-zero count) (behind_none (counted ed (length from.ledger.now) s count (drop from.place from.ledger.now)));
      same = refl;
      size = omega (arith, ap length (laids_nil ed));
      bits = λ _. sym (rw (laids_nil ed) (splice_nil (bits_of out) from.at));
      long = refl;
      ahead = p;
      aligned = h;
    }

module _ {ed : Edition} {s : Syntax} {from step : Step} {out₀ out : List ℕ} {count i : ℕ} (st : Counting ed s from count out₀ step i out) where
  -- the ledger, which is the step's too
  abbrev l : List ℕ
  l = from.ledger.now

  abbrev all : Parse (List (List Field))
  all = counted ed (length l) s count (drop from.place l)

  one_more : i < count → count - i ≡ suc (count - (i + 1))
  one_more h = omega arith

  here : {way : Way} {out' : List ℕ} {r : Result Step Refusal} → TakenFrom way step s out out' r → Taken way l s step.place step.at out out' r
  here {way} {out'} {r} y = subst (λ (m : List ℕ). Taken way m s step.place step.at out out' r) st.same y

  pub turn : {out' : List ℕ} {x : Step} → i < count → TakenFrom (way_of ed (eqb (i + 1) count)) step s out out' (Ok x) → x.at % 8 ≡ 0 → Counting ed s from count out₀ x (i + 1) out'
  turn {out'} {x} h y m =
      let f = (here y).to in
      let w = f.took in
      let es = st.es in
      let n = ap length (laids_more ed es w.ts) ∙ length-append (laids ed es) (laid ed w.ts) in
      let z = w.size in
      let z' = st.size in
      record {
        es = es ++ (w.ts ∷ []);
        walked = st.walked ∙ rw (one_more h, counted_next ed (length l) (count - (i + 1)) s (drop step.place l), last_by i count h, w.reads) (behind_more es w.ts (counted ed (length l) s (count - (i + 1)) (drop x.place l)));
        same = f.same;
        size = omega arith;
        bits = λ r. w.bits (omega (arith, st.long)) ∙ ap (λ (m : List ℕ). splice m step.at (laid ed w.ts)) (st.bits (omega arith))
            ∙ splice_splice (bits_of out₀) from.at (laids ed es) (laid ed w.ts) step.at st.size (omega (arith, length_bits out₀)) ∙ ap (splice (bits_of out₀) from.at) (sym (laids_more ed es w.ts));
        long = w.long ∙ st.long;
        ahead = omega (arith, st.ahead, w.slack);
        aligned = m;
      }

  pub stop : {out' : List ℕ} {f : Refusal} → i < count → TakenFrom (way_of ed (eqb (i + 1) count)) step s out out' (Err f) → Refuses all f
  stop {f = f} h y =
      record { reads = st.walked ∙ rw (one_more h, counted_next ed (length l) (count - (i + 1)) s (drop step.place l), last_by i count h, (here y).to.reads) }

  pub ended : count ≤ i → Held (laids ed) l all from.at out₀ step.place step.at out
  ended h =
      let e : count - i ≡ 0 = omega arith in
      record {
        what = st.es;
        reads = st.walked ∙ rw (e, counted_none ed (length l) s (drop step.place l), append-nil st.es);
        size = st.size;
        bits = st.bits;
        within = omega (arith, step.placed.within, ap length st.same);
      }

-- ---- the count in front of them

module _ (ed : Edition) (l : List ℕ) (s : Syntax) (place : ℕ) where
  pub count_there : {count : ℕ} → 2 ≤ length l - place → count ≡ value 256 (take 2 (drop place l))
      → listing ed (length l) s (drop place l) ≡ counted ed (length l) s count (drop (place + 2) l)
  count_there m e = rw (le-leb 2 (length (drop place l)) (omega (arith, length-drop place l)), drop-drop 2 place l, e)
