-- A plan laid; in the first edition its length in front of the fields that it counts.
-- Assumes nothing.
use Prim.Native.Nat.{ℕ, ◌+◌, ◌-◌, ◌*◌, ◌/◌, ◌≤◌}
use mathlib.Core.Path.{◌≡◌, sym, ap, ◌∙◌}
use mathlib.Core.Bool.{Bool}
use mathlib.Core.List.{List, [], ◌∷◌, ◌++◌, append-nil}
use native.Mathlib.Omega.{arith}
use lib.ListN.{length, drop, length-append}
use Rattle.std.specs.Prelude.{Result, Ok, Err}
use Rattle.format.specs.Digits.{digits, bits_of, splice}
use Rattle.format.specs.Syntax.{Name, Syntax, end, plan, Field, filler, Parse, got, and_then}
use Rattle.format.specs.declared.Edition.TheVariants.{First}
use Rattle.format.specs.Body.{planned, laid, plain}
use Rattle.format.specs.Ledger.{read_ledger}
use Rattle.format.specs.declared.Refusal.{Refusal}
use Rattle.format.proofs.DigitLaws.{length_digits, length_bits}
use Rattle.bits.proofs.Splices.{splice_front, splice_splice}
use Rattle.read_runs.specs.declared.step.Step.{Step}
use Rattle.write_runs.specs.Went.{pushes}
use Rattle.write_runs.proofs.WentLaws.{pushes_append, pushes_refused, pushes_got}
use Rattle.read_runs.specs.Came.{Way, way_of, Came, Laid}
use Rattle.read_plans.specs.Taken.{Took, Taken, Spared}

-- ---- entries

pub pushes_more : (xs ys : List Field) (rest : List ℕ) → pushes xs (got ys rest) ≡ got (xs ++ ys) rest
pushes_more xs ys rest = ap (pushes xs) (sym (pushes_got ys rest)) ∙ sym (pushes_append xs ys (got [] rest)) ∙ pushes_got (xs ++ ys) rest

module _ {way : Way} {l : List ℕ} where
  -- an entry without a plan's length
  pub as_taken : {place at : ℕ} {s : Syntax} {out out' : List ℕ} {r : Result Step Refusal} → Laid way l s place at out (λ _. end) out' r → Taken way l s place at out out' r
  unfolding read_ledger
  as_taken {r = Ok x} y =
      let w = y.to.came in
      record { to = record { same = y.to.same; took = record { ts = w.ts; reads = w.reads ∙ pushes_got w.ts (drop x.place l); size = w.size; bits = w.bits; long = w.long; within = w.within; slack = w.slack } } }
  as_taken {r = Err f} y = record { to = y.to }

  pub taken_no : {place at : ℕ} {s : Syntax} {out out₁ out₂ : List ℕ} {k : ℕ → Syntax} {f : Refusal} {r : Result Step Refusal} → r ≡ Err f
      → Laid way l s place at out k out₁ (Err f) → Taken way l s place at out out₂ r
  taken_no q y = rw q (record { to = y.to })

-- a refusal is one wherever the entry was to be laid
pub taken_stops : {way : Way} {l : List ℕ} {place at at₂ : ℕ} {s : Syntax} {out out₁ out₂ out₃ : List ℕ} {f : Refusal} {r : Result Step Refusal} → r ≡ Err f
    → Taken way l s place at out out₁ (Err f) → Taken way l s place at₂ out₂ out₃ r
taken_stops q y = rw q (record { to = y.to })

-- ---- the first edition: the length is stored in front of the fields that it counts

module _ {b : Bool} {l : List ℕ} {s k : Syntax} {nm : Name} {place at place₁ at₁ : ℕ} {out out₁ : List ℕ} (x : Came (way_of First b) l s place at out (plan nm k) place₁ at₁ out₁) where
  -- a refusal within a plan
  pub plan_no : {at₂ : ℕ} {out₂ out₃ : List ℕ} {j : ℕ → Syntax} {f : Refusal} {r : Result Step Refusal} → r ≡ Err f
      → Laid (way_of First b) l k place₁ at₂ out₁ j out₂ (Err f) → Taken (way_of First b) l s place at out out₃ r
  unfolding read_ledger
  plan_no {f = f} q y =
      rw q
      (record {
        to = record {
          reads = x.reads
              ∙ ap (λ (a : Parse (List Field)). pushes x.ts (and_then a (λ ts rest. got (planned nm (length (plain ts) / 8) ts []) rest))) y.to.reads
              ∙ pushes_refused x.ts f.fault f.need f.have;
        };
      })

  pub plan_took : {place₂ at₂ : ℕ} {out₂ out₃ : List ℕ} (w : Came (way_of First b) l k place₁ (at₁ + 12) out₁ end place₂ at₂ out₂)
      → (at₁ + 12 ≤ 8 * length out₂ → bits_of out₃ ≡ splice (bits_of out₂) at₁ (digits 2 12 ((at₂ - (at₁ + 12)) / 8))) → length out₃ ≡ length out₂
      → at₂ + 8 * place ≤ at + 8 * place₂ → Took (way_of First b) l s place at out place₂ at₂ out₃
  unfolding read_ledger laid
  plan_took {place₂} {at₂} {out₂} {out₃} w g long slack =
      let a = plain x.ts in
      let c = plain w.ts in
      let v : (at₂ - (at₁ + 12)) / 8 ≡ length c / 8 = omega (arith, w.size) in
      let d : List ℕ = digits 2 12 (length c / 8) in
      let n : length d ≡ 12 = length_digits 2 12 (length c / 8) in
      let ts : List Field = planned nm (length c / 8) w.ts [] in
      let within : plain (w.ts ++ (filler [] ∷ [])) ≡ c = w.joins (filler [] ∷ []) ∙ append-nil c in
      let p : plain ts ≡ d ++ c = rw within in
      let j : plain (x.ts ++ ts) ≡ a ++ (d ++ c) = x.joins ts ∙ ap (λ (y : List ℕ). a ++ y) p in
      let m : length (plain (x.ts ++ ts)) ≡ length a + (12 + length c) = ap length j ∙ length-append a (d ++ c) ∙ ap (λ (k : ℕ). length a + k) (length-append d c ∙ ap (λ (k : ℕ). k + length c) n) in
      let z = x.size in
      let z' = w.size in
      record {
        ts = x.ts ++ ts;
        reads = x.reads ∙ ap (λ (y : Parse (List Field)). pushes x.ts (and_then y (λ us rest. got (planned nm (length (plain us) / 8) us []) rest))) (w.reads ∙ pushes_got w.ts (drop place₂ l))
            ∙ pushes_more x.ts ts (drop place₂ l);
        size = omega arith;
        bits = λ h. g (omega (arith, w.long, x.long)) ∙ ap (λ (k : ℕ). splice (bits_of out₂) at₁ (digits 2 12 k)) v
            ∙ ap (λ (o : List ℕ). splice o at₁ d) (w.bits (omega (arith, x.long)))
            ∙ splice_front (bits_of out₁) d c at₁ (at₁ + 12) (omega arith) (omega (arith, length_bits out₁, x.long))
            ∙ ap (λ (o : List ℕ). splice o at₁ (d ++ c)) (x.bits (omega arith))
            ∙ splice_splice (bits_of out) at a (d ++ c) at₁ x.size (omega (arith, length_bits out))
            ∙ ap (splice (bits_of out) at) (sym j);
        long = long ∙ w.long ∙ x.long;
        within = w.within;
        slack = slack;
      }

-- ---- what the fields within a plan spare

pub spared : {way : Way} {l out out' : List ℕ} {s : Syntax} {k : ℕ → Syntax} {place at place₁ at₁ : ℕ} {r : Result Step Refusal} → at₁ + 8 * place + 8 ≤ at + 8 * place₁
    → Laid way l s place₁ at₁ out k out' r → Spared place at r
spared {r = Ok x} h y = record { to = omega (arith, y.to.came.slack) }
spared {r = Err f} h y = record { to = tt }
