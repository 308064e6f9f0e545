-- A plan of the second edition laid: its length as a field, what is within it, its filler as raw bytes, and the test of
-- all three (28).
-- Assumes nothing.
use Prim.Native.Nat.{ℕ, ◌+◌, ◌-◌, ◌%◌, ◌^◌, ◌≤◌, ◌<◌}
use mathlib.Core.Path.{◌≡◌, sym, ap, ◌∙◌}
use mathlib.Core.Bool.{Bool, true, false, cond}
use mathlib.Core.List.{List, [], ◌∷◌, ◌++◌, append_assoc, append-nil}
use native.Mathlib.Omega.{arith}
use lib.Dec.{eqb}
use lib.ListN.{length, take, drop, length-append, length-drop}
use lib.Seq.{drop-drop, length-take-le}
use borrow.Author.Tests.{eqb-true}
use Rattle.std.specs.Prelude.{Result, Err}
use Rattle.format.specs.Digits.{digits, value, Below, bits_of, splice}
use Rattle.format.specs.Refusals.{refuse}
use Rattle.format.specs.Syntax.{Name, unsigned, Syntax, end, field, plan, raw, before, Field, num, bytes, Parse, got, refused, and_then, push}
use Rattle.format.specs.declared.Edition.TheVariants.{Second}
use Rattle.format.specs.Tables.{hopping}
use Rattle.format.specs.Body.{planned, laid, kept}
use Rattle.format.specs.Ledger.{grant, leaves, read_filler, read_ledger}
use Rattle.format.specs.declared.Refusal.{Refusal}
use Rattle.format.specs.ByName.{the}
use Rattle.format.specs.declared.Fault.TheVariants.{PlanLengthMisfit}
use Rattle.format.proofs.DigitLaws.{length_bits, value_lt, below_take, below_drop}
use Rattle.format.proofs.ParseLaws.{push_got, grant_got}
use Rattle.format.proofs.Good.{Good, laid_num, laid_bytes, laid_nil, kept_filler}
use Rattle.format.proofs.FineTables.{fine_hopping}
use Rattle.format.proofs.LedgerLaws.{found, bytes_got}
use Rattle.format.proofs.PlanLaws.{behind_length, plan_field, behind_raw, filler_raw, hopping_left, mode_byte}
use Rattle.bits.proofs.Splices.{splice_splice}
use Rattle.write_runs.specs.Went.{pushes}
use Rattle.write_runs.proofs.WentLaws.{pushes_got, pushes_refused}
use Rattle.read_runs.specs.declared.step.Step.{Step}
use Rattle.read_runs.specs.Came.{Way, way_of, Came, Halted, Laid}
use Rattle.read_plans.specs.Taken.{Took, Taken, leaves_by}
use Rattle.read_plans.proofs.TakenLaws.{pushes_more}

pub two_bytes : (l : List ℕ) (p : ℕ) → Below 256 l → p + 2 ≤ length l → value 256 (take 2 (drop p l)) ≤ 65535
two_bytes l p b h =
    let z : value 256 (take 2 (drop p l)) < 256 ^ 2 = rw (length-take-le 2 (drop p l) (omega (arith, length-drop p l))) at (value_lt 256 (take 2 (drop p l)) (below_take 256 2 (drop p l) (below_drop 256 p l b))) in
    omega arith

leaves_by_lem : {l : Bool} {us : List Field} → Good l true (before hopping) us → (b : Bool) (v f : ℕ) → leaves b v us f ≡ leaves_by b v (length (kept us)) f (the "time_plan_mode" us)
unfolding leaves_by
leaves_by_lem g b v f = rw (hopping_left g true f, hopping_left g false f)

-- a field that was read
field_read : (b : Bool) (n : ℕ) (nm : Name) (k : Syntax) (bs : List ℕ) {ts : List Field} {rest : List ℕ} → read_ledger Second b n (field unsigned nm 12 (λ _. k)) bs ≡ got ts rest
    → (us : List Field) × (ts ≡ num unsigned nm 12 (value 256 (take 2 bs)) ∷ us) × (read_ledger Second b n k (drop 2 bs) ≡ got us rest)
unfolding read_ledger
field_read b n nm k bs e =
    let x : ℕ = value 256 (take 2 bs) in
    let v : ℕ = x % 2 ^ 12 in
    let p = grant_got n 2 (eqb v x) bs (push (num unsigned nm 12 v) (read_ledger Second b n k (drop 2 bs))) e in
    let o = push_got (num unsigned nm 12 v) (read_ledger Second b n k (drop 2 bs)) p.2 in
    (o.0, o.2 ∙ ap (λ (j : ℕ). num unsigned nm 12 j ∷ o.0) (eqb-true v x p.1), o.1)

raw_read : (b : Bool) (n : ℕ) (nm : Name) (bs : List ℕ) {ts : List Field} {rest : List ℕ} → Below 256 bs → read_ledger Second b n (raw nm) bs ≡ got ts rest → (fs : List ℕ) × (ts ≡ bytes nm fs ∷ [])
unfolding read_ledger
raw_read b n nm bs {ts} {rest} h e =
    let o = bytes_got n bs (λ xs r. got (bytes nm xs ∷ []) r) h e in
    let z : got (bytes nm o.what ∷ []) o.rest ≡ got ts rest = o.goes in
    (o.what, cc)

-- what was read of a plan: its fields, its filler, and how the test stands
pub record Plan (b : Bool) (l : List ℕ) (nm : Name) (p₀ p₂ p₃ v : ℕ) (gs hs : List Field) : Type 0 where
  pub us : List Field
  pub fs : List ℕ
  pub fields : gs ≡ num unsigned nm 12 v ∷ us
  pub filling : hs ≡ bytes "filler" fs ∷ []
  pub test : leaves b v us (length fs) ≡ leaves_by b v (length (kept us)) (length fs) (value 256 (take 1 (drop 1 (drop 2 (drop p₀ l)))))
  pub reads : read_ledger Second b (length l) (plan nm hopping) (drop p₀ l)
      ≡ cond (leaves b v us (length fs)) (got (planned nm v us fs) (drop p₃ l)) (refused PlanLengthMisfit (length l - length (drop 2 (drop p₂ l))) 0)

pub plan_of_lem : (b : Bool) (l : List ℕ) (nm : Name) (p₀ p₂ p₃ : ℕ) (gs hs : List Field) → Below 256 l
    → read_ledger Second b (length l) (field unsigned nm 12 (λ _. hopping)) (drop p₀ l) ≡ got gs (drop p₂ l)
    → read_ledger Second b (length l) (raw "filler") (drop p₂ l) ≡ got hs (drop p₃ l)
    → Plan b l nm p₀ p₂ p₃ (value 256 (take 2 (drop p₀ l))) gs hs
plan_of_lem b l nm p₀ p₂ p₃ gs hs h e d =
    let n : ℕ = length l in
    let bs : List ℕ = drop p₀ l in
    let v : ℕ = value 256 (take 2 bs) in
    let o = field_read b n nm hopping bs e in
    let r = raw_read b n "filler" (drop p₂ l) (below_drop 256 p₂ l h) d in
    let us : List Field = o.0 in
    let fs : List ℕ = r.0 in
    let g = found n Second b true 48 9 hopping (drop 2 bs) fine_hopping (below_drop 256 2 bs (below_drop 256 p₀ l h)) o.2 in
    let m : the "time_plan_mode" us ≡ value 256 (take 1 (drop 1 (drop 2 bs))) = mode_byte Second b n (drop 2 bs) o.2 in
    record {
      us = us;
      fs = fs;
      fields = o.1;
      filling = r.1;
      test = leaves_by_lem g.good b v (length fs) ∙ ap (leaves_by b v (length (kept us)) (length fs)) m;
      reads = plan_field b n nm hopping bs ∙ ap (λ (p : Parse (List Field)). and_then p (behind_length (read_filler b n nm))) (e ∙ ap (λ (t : List Field). got t (drop p₂ l)) o.1)
          ∙ filler_raw b n nm v us (drop p₂ l) ∙ ap (λ (p : Parse (List Field)). and_then p (behind_raw (λ ys rest. cond (leaves b v us (length ys)) (got (planned nm v us ys) rest) (refused PlanLengthMisfit (n - length (drop 2 (drop p₂ l))) 0))))
          (d ∙ ap (λ (t : List Field). got t (drop p₃ l)) r.1);
    }

-- raw bytes have their count in front
pub raw_there : {way : Way} {l out out' : List ℕ} {nm : Name} {place at p a : ℕ} → Came way l (raw nm) place at out end p a out' → place ≤ length l → place + 2 ≤ length l
unfolding read_ledger
raw_there {way} {l} {nm = nm} {place} {p = p} w h =
    let bs : List ℕ = drop place l in
    let q : ℕ = value 256 (take 2 bs) in
    let after : List ℕ = drop 2 bs in
    let more : Parse (List Field) = grant (length l) q true after (got (bytes nm (bits_of (take q after)) ∷ []) (drop q after)) in
    omega (arith, (grant_got (length l) 2 true bs more (w.reads ∙ pushes_got w.ts (drop p l))).0, length-drop place l)

-- a refusal of the length or of a field within the plan
pub within_no : {b : Bool} {l out out₀ out₁ out₂ : List ℕ} {s : Syntax} {nm : Name} {place at p₀ a₀ : ℕ} {j : ℕ → Syntax} {f : Refusal}
    {r : Result Step Refusal} → Came (way_of Second b) l s place at out (plan nm hopping) p₀ a₀ out₀ → r ≡ Err f
    → Laid (way_of Second b) l (field unsigned nm 12 (λ _. hopping)) p₀ a₀ out₀ j out₁ (Err f) → Taken (way_of Second b) l s place at out out₂ r
within_no {b} {l} {nm = nm} {p₀ = p₀} {f = f} x q y =
    rw q
    (record {
      to = record {
        reads = x.reads
            ∙ ap (pushes x.ts) (plan_field b (length l) nm hopping (drop p₀ l)
            ∙ ap (λ (p : Parse (List Field)). and_then p (behind_length (read_filler b (length l) nm))) y.to.reads)
            ∙ pushes_refused x.ts f.fault f.need f.have;
      };
    })

-- a refusal of the filler
pub filler_no : {b : Bool} {l out out₀ out₁ out₂ out₃ : List ℕ} {s : Syntax} {nm : Name} {place at p₀ a₀ p₂ a₂ : ℕ} {j : ℕ → Syntax} {f : Refusal}
    {r : Result Step Refusal} → Came (way_of Second b) l s place at out (plan nm hopping) p₀ a₀ out₀
    → Came (way_of Second b) l (field unsigned nm 12 (λ _. hopping)) p₀ a₀ out₀ end p₂ a₂ out₁ → r ≡ Err f
    → Laid (way_of Second b) l (raw "filler") p₂ a₂ out₁ j out₂ (Err f) → Taken (way_of Second b) l s place at out out₃ r
unfolding read_ledger
filler_no {b} {l} {nm = nm} {p₀ = p₀} {p₂ = p₂} {f = f} x g q y =
    let n : ℕ = length l in
    let o = field_read b n nm hopping (drop p₀ l) (g.reads ∙ pushes_got g.ts (drop p₂ l)) in
    let v : ℕ = value 256 (take 2 (drop p₀ l)) in
    let e = g.reads ∙ pushes_got g.ts (drop p₂ l) ∙ ap (λ (t : List Field). got t (drop p₂ l)) o.1 in
    rw q
    (record {
      to = record {
        reads = x.reads ∙ ap (pushes x.ts) (plan_field b n nm hopping (drop p₀ l) ∙ ap (λ (p : Parse (List Field)). and_then p (behind_length (read_filler b n nm))) e
            ∙ filler_raw b n nm v o.0 (drop p₂ l) ∙ ap (λ (p : Parse (List Field)). and_then p (behind_raw (λ ys rest. cond (leaves b v o.0 (length ys)) (got (planned nm v o.0 ys) rest) (refused PlanLengthMisfit (n - length (drop 2 (drop p₂ l))) 0)))) y.to.reads)
            ∙ pushes_refused x.ts f.fault f.need f.have;
      };
    })

module _ {b : Bool} {l : List ℕ} {s : Syntax} {nm : Name} {place at p₀ a₀ p₂ a₂ p₃ a₃ : ℕ} {out out₀ out₂ out₃ : List ℕ} (h : Below 256 l)
    (x : Came (way_of Second b) l s place at out (plan nm hopping) p₀ a₀ out₀)
    (g : Came (way_of Second b) l (field unsigned nm 12 (λ _. hopping)) p₀ a₀ out₀ end p₂ a₂ out₂)
    (f : Came (way_of Second b) l (raw "filler") p₂ a₂ out₂ end p₃ a₃ out₃) where
  -- the length, the mode, and the numbers that the test goes by
  abbrev v : ℕ
  v = value 256 (take 2 (drop p₀ l))

  abbrev pub stands : Bool
  stands = leaves_by b v (a₂ - (a₀ + 12)) (a₃ - a₂) (value 256 (take 1 (drop 1 (drop 2 (drop p₀ l)))))

  read : Plan b l nm p₀ p₂ p₃ v g.ts f.ts
  unfolding read_ledger
  read = plan_of_lem b l nm p₀ p₂ p₃ g.ts f.ts h (g.reads ∙ pushes_got g.ts (drop p₂ l)) (f.reads ∙ pushes_got f.ts (drop p₃ l))

  sizes : (a₂ ≡ a₀ + (12 + length (kept read.us))) × (a₃ ≡ a₂ + length read.fs)
  sizes = (
    g.size ∙ ap (λ (t : List Field). a₀ + length (kept t)) read.fields ∙ ap (λ (j : ℕ). a₀ + j) (laid_num Second unsigned nm 12 v read.us),
    f.size ∙ ap (λ (t : List Field). a₂ + length (kept t)) read.filling ∙ ap (λ (j : ℕ). a₂ + j) (laid_bytes Second "filler" read.fs [] ∙ omega (arith, laid_nil Second)),
  )

  decides : leaves b v read.us (length read.fs) ≡ stands
  decides =
      let k : length (kept read.us) ≡ a₂ - (a₀ + 12) = omega (arith, sizes) in
      let j : length read.fs ≡ a₃ - a₂ = omega (arith, sizes) in
      read.test ∙ ap (λ (z : ℕ). leaves_by b v z (length read.fs) (value 256 (take 1 (drop 1 (drop 2 (drop p₀ l)))))) k
      ∙ ap (λ (z : ℕ). leaves_by b v (a₂ - (a₀ + 12)) z (value 256 (take 1 (drop 1 (drop 2 (drop p₀ l)))))) j

  pub kept_no : p₂ + 2 ≤ length l → stands ≡ false → Halted (way_of Second b) l s place (refuse PlanLengthMisfit (p₂ + 2) 0)
  kept_no m q =
      let z : length l - length (drop 2 (drop p₂ l)) ≡ p₂ + 2 = omega (arith, length-drop 2 (drop p₂ l), length-drop p₂ l) in
      let r : read_ledger Second b (length l) (plan nm hopping) (drop p₀ l) ≡ refused PlanLengthMisfit (p₂ + 2) 0 = read.reads ∙ rw (decides, q, z) in
      record { reads = x.reads ∙ ap (pushes x.ts) r ∙ pushes_refused x.ts PlanLengthMisfit (p₂ + 2) 0 }

  pub kept_yes : stands ≡ true → Took (way_of Second b) l s place at out p₃ a₃ out₃
  unfolding laid
  kept_yes q =
      let us : List Field = read.us in
      let fs : List ℕ = read.fs in
      let ts : List Field = planned nm v us fs in
      let d : List ℕ = digits 2 12 v in
      let X : List ℕ = kept x.ts in
      let G : List ℕ = kept g.ts in
      let F : List ℕ = kept f.ts in
      let eg : G ≡ d ++ kept us = ap kept read.fields in
      let ef : F ≡ fs = ap kept read.filling ∙ append-nil fs in
      let et : kept ts ≡ G ++ F = ap (λ (y : List ℕ). d ++ y) (kept_filler us fs) ∙ sym (append_assoc d (kept us) fs) ∙ sym (ap (λ (y : List ℕ). y ++ F) eg ∙ ap (λ (y : List ℕ). (d ++ kept us) ++ y) ef) in
      let j : kept (x.ts ++ ts) ≡ X ++ (G ++ F) = x.joins ts ∙ ap (λ (y : List ℕ). X ++ y) et in
      let n : length (kept (x.ts ++ ts)) ≡ length X + (length G + length F) = ap length j ∙ length-append X (G ++ F) ∙ ap (λ (k : ℕ). length X + k) (length-append G F) in
      let zx = x.size in
      let zg = g.size in
      let zf = f.size in
      let r : read_ledger Second b (length l) (plan nm hopping) (drop p₀ l) ≡ got ts (drop p₃ l) = read.reads ∙ rw (decides, q) in
      record {
        ts = x.ts ++ ts;
        reads = x.reads ∙ ap (pushes x.ts) r ∙ pushes_more x.ts ts (drop p₃ l);
        size = omega arith;
        bits = λ m. f.bits (omega (arith, g.long, x.long)) ∙ ap (λ (o : List ℕ). splice o a₂ F) (g.bits (omega (arith, x.long)))
            ∙ splice_splice (bits_of out₀) a₀ G F a₂ g.size (omega (arith, length_bits out₀, x.long))
            ∙ ap (λ (o : List ℕ). splice o a₀ (G ++ F)) (x.bits (omega arith))
            ∙ splice_splice (bits_of out) at X (G ++ F) a₀ x.size (omega (arith, length_bits out))
            ∙ ap (splice (bits_of out) at) (sym j);
        long = f.long ∙ g.long ∙ x.long;
        within = f.within;
        slack = omega (arith, x.slack, g.slack, f.slack);
      }

  -- the test as the code has it
  pub stands_by : {r : Bool} {v' m : ℕ} → v' ≡ value 256 (take 2 (drop p₀ l)) → m ≡ value 256 (take 1 (drop (p₀ + 3) l)) → r ≡ leaves_by b v' (a₂ - (a₀ + 12)) (a₃ - a₂) m → r ≡ stands
  stands_by {r} {v'} {m} e d q =
      let z : drop (p₀ + 3) l ≡ drop 1 (drop 2 (drop p₀ l)) = sym (drop-drop 1 2 (drop p₀ l) ∙ drop-drop 3 p₀ l) in
      q ∙ ap (λ (k : ℕ). leaves_by b k (a₂ - (a₀ + 12)) (a₃ - a₂) m) e ∙ ap (leaves_by b v (a₂ - (a₀ + 12)) (a₃ - a₂)) (d ∙ ap (λ (y : List ℕ). value 256 (take 1 y)) z)
