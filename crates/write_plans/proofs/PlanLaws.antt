-- A plan: its length, what is within it, its filler, and where the next one starts.
-- Assumes nothing.
use Prim.Native.Nat.{ℕ, ◌+◌, ◌-◌, ◌*◌, ◌%◌, ◌≤◌, ◌<◌, min}
use mathlib.Core.Path.{◌≡◌, refl, sym, ap, ◌∙◌}
use mathlib.Core.Bool.{Bool, true, false}
use mathlib.Core.List.{List, ◌++◌}
use native.Mathlib.Omega.{arith}
use Rattle.std.proofs.Common.{Ok, Err}
use lib.Dec.{leb}
use lib.ListN.{length, take, drop, length-append, drop_of_length-le}
use lib.Seq.{drop-drop, take_all}
use borrow.Author.Tests.{le-leb, lt-leb, leb-true, leb-false}
use Rattle.format.specs.Digits.{digits, bits_of, value_at, splice}
use Rattle.format.specs.Refusals.{refuse}
use Rattle.format.specs.Syntax.{Name, Syntax, end, plan, Field, added, got}
use Rattle.format.specs.declared.Edition.{Edition}
use Rattle.format.specs.declared.Edition.TheVariants.{First, Second}
use Rattle.format.specs.Tables.{hopping}
use Rattle.format.specs.Body.{planned, close, read_body}
use Rattle.format.specs.Ledger.{counted_bytes, ledger}
use Rattle.format.specs.declared.Refusal.{Refusal}
use Rattle.format.specs.declared.Fault.TheVariants.{PlanOverrun}
use Rattle.format.proofs.DigitLaws.{length_bits, length_digits, below_drop, bits_below}
use Rattle.format.proofs.Good.{ledger_filler}
use Rattle.format.proofs.BodyLaws.{sound}
use Rattle.format.proofs.FineTables.{fine_hopping}
use Rattle.format.proofs.ReadLaws.{rest_at, place_at}
use Rattle.format.specs.declared.Found.{Found}
use Rattle.bits.specs.Read.{read_at}
use Rattle.bits.proofs.Answers.{got_all, cut_all}
use Rattle.bits.proofs.Splices.{splice_splice}
use Rattle.write_runs.specs.Went.{Around, outside, inside, Went, Stopped, Ran}
use Rattle.write_runs.proofs.WentLaws.{pushes_got}
use Rattle.write_plans.specs.Appended.{Appended}
use Rattle.write_plans.proofs.SlotLaws.{counted_length}

-- what the second edition adds takes no more in any
added_short : (ed : Edition) (xs : List ℕ) → length (added ed xs) ≤ length xs
added_short First xs = omega arith
added_short Second xs = omega arith

-- a length takes two bytes at most
pub length_appended : {out out' : List ℕ} {place r : ℕ} (ed : Edition) (v : ℕ) → Appended out place (added ed (digits 256 2 v)) out' r → r ≤ place + 2
length_appended ed v a = omega (arith, a.size, added_short ed (digits 256 2 v), length_digits 256 2 v)

-- a plan's ledger: its length, its fields, its filler
ledger_plan : (ed : Edition) (nm : Name) (v : ℕ) (ts : List Field) (fs : List ℕ) → ledger ed (planned nm v ts fs) ≡ added ed (digits 256 2 v) ++ (ledger ed ts ++ added ed (counted_bytes fs))
unfolding ledger
ledger_plan ed nm v ts fs = ap (λ (x : List ℕ). added ed (digits 256 2 v) ++ x) (ledger_filler ed ts fs)

pub hopping_byte : {body out out' : List ℕ} {ed : Edition} {e at place a p : ℕ} → Went body (inside ed e) hopping at place out end a p out' → at ≤ 8 * length body → at % 8 ≡ 0 → e % 8 ≡ 0 → a % 8 ≡ 0
unfolding read_body
hopping_byte {body} {e = e} {at} {a = a} w h a8 e8 =
    let n : ℕ = 8 * length body in
    let b : List ℕ = bits_of body in
    let inner : read_body n e hopping (drop at b) ≡ got w.ts (drop a b) = w.reads ∙ pushes_got w.ts (drop a b) in
    let y = sound n (omega arith) true true 48 9 e hopping (drop at b) fine_hopping (below_drop 2 at b (bits_below body)) (omega (arith, rest_at body at)) (omega (arith, rest_at body at)) (λ _. e8) (λ no. absurd (no tt)) inner in
    omega (arith, y.aligned, rest_at body a, w.within)

-- ---- a plan

-- the length is cut short
pub plan_cut : (body : List ℕ) (e : Around) (nm : Name) (k : Syntax) (at : ℕ) {f : Refusal} → at ≤ 8 * length body → Err f ≡ read_at body at 12
    → Stopped body e (plan nm k) at f
unfolding read_body
plan_cut body e nm k at {f} h q =
    let x = cut_all body at 12 f q refl in
    rw x.why
    (record { reads = rw (lt-leb 12 (length (drop at (bits_of body))) (omega (arith, rest_at body at, x.short)), place_at body at h) })

-- the length is read, so that the plan ends at e
module _ (body : List ℕ) (nm : Name) (k : Syntax) (at : ℕ) {x : Found ℕ} {e : ℕ} (q : Ok x ≡ read_at body at 12) (ends : e ≡ x.next + 8 * x.value) where
  plan_read : read_body (8 * length body) 0 (plan nm k) (drop at (bits_of body)) ≡ close nm x.value (8 * length body) e (read_body (8 * length body) e k (drop x.next (bits_of body)))
  unfolding read_body value_at
  plan_read =
      let g = got_all body at 12 q refl in
      rw (
        ends,
        g.next,
        g.value,
        le-leb 12 (length (drop at (bits_of body))) (omega (arith, rest_at body at, g.there)),
        drop-drop 12 at (bits_of body),
        place_at body (at + 12) g.there,
      )

  -- the next place, and what the plan leaves up to it
  module _ {at' : ℕ} (next : at' ≡ min e (8 * length body)) where
    drop_next : (t : Bool) → leb e (8 * length body) ≡ t → drop e (bits_of body) ≡ drop at' (bits_of body)
    drop_next true q =
        let z : at' ≡ e = omega (arith, leb-true e (8 * length body) q) in
        ap (λ (n : ℕ). drop n (bits_of body)) (sym z)
    drop_next false q =
        let g : 8 * length body < e = leb-false e (8 * length body) q in
        let z : at' ≡ 8 * length body = omega arith in
        drop_of_length-le (bits_of body) {i = e} (omega (arith, length_bits body)) ∙ sym (drop_of_length-le (bits_of body) {i = at'} (omega (arith, length_bits body)))

    take_next : (a : ℕ) (t : Bool) → leb e (8 * length body) ≡ t → take (e - a) (drop a (bits_of body)) ≡ take (at' - a) (drop a (bits_of body))
    take_next a true q =
        let z : at' ≡ e = omega (arith, leb-true e (8 * length body) q) in
        ap (λ (n : ℕ). take (n - a) (drop a (bits_of body))) (sym z)
    take_next a false q =
        let n : ℕ = 8 * length body in
        let ld : length (drop a (bits_of body)) ≡ n - a = rest_at body a in
        let z : at' ≡ n = omega (arith, leb-false e n q) in
        take_all (e - a) (drop a (bits_of body)) (omega (arith, leb-false e n q)) ∙ sym (take_all (at' - a) (drop a (bits_of body)) (omega arith))

    -- the length is stored in front of the fields and the filler behind them, in the edition that has them
    pub plan_done : {ed : Edition} {place from a p place' : ℕ} {out out₁ out₂ out₃ : List ℕ} → Appended out place (added ed (digits 256 2 x.value)) out₁ from
        → Went body (inside ed e) k x.next from out₁ end a p out₂ → a ≤ e
        → Appended out₂ p (added ed (counted_bytes (take (at' - a) (drop a (bits_of body))))) out₃ place'
        → Went body (outside ed) (plan nm k) at place out end at' place' out₃
    unfolding read_body
    plan_done {ed} {place} {from} {a} {p} {place'} {out} {out₁} {out₂} {out₃} f w h g =
        let n : ℕ = 8 * length body in
        let b : List ℕ = bits_of body in
        let inner : read_body n e k (drop x.next b) ≡ got w.ts (drop a b) = w.reads ∙ pushes_got w.ts (drop a b) in
        let s : a + (e - a) ≡ e = omega arith in
        let rest : drop (e - a) (drop a b) ≡ drop at' b = drop-drop (e - a) a b ∙ ap (λ (n : ℕ). drop n b) s ∙ drop_next (leb e n) refl in
        let fs : List ℕ = take (at' - a) (drop a b) in
        let ls : List ℕ = added ed (digits 256 2 x.value) in
        let y : List ℕ = ledger ed w.ts in
        let z : List ℕ = added ed (counted_bytes fs) in
        let l : ledger ed (planned nm x.value w.ts fs) ≡ ls ++ (y ++ z) = ledger_plan ed nm x.value w.ts fs in
        let far : a ≤ at' = omega (arith, w.within) in
        record {
          ts = planned nm x.value w.ts fs;
          reads = plan_read ∙ rw (inner, place_at body a w.within, le-leb a e h, rest, take_next a (leb e n) refl) (sym (pushes_got (planned nm x.value w.ts fs) (drop at' b)));
          size = omega (arith, f.size, w.size, g.size, ap length l, length-append ls (y ++ z), length-append y z);
          bytes = λ r.
              let k1 : p ≤ place' = omega (arith, g.size) in
              let k2 : from ≤ p = omega (arith, w.size) in
              g.bytes (omega (arith, w.long, f.long))
              ∙ ap (λ (o : List ℕ). splice o p z) (w.bytes (omega (arith, f.long)))
              ∙ splice_splice out₁ from y z p w.size (omega (arith, w.size, f.long))
              ∙ ap (λ (o : List ℕ). splice o from (y ++ z)) (f.bytes (omega arith))
              ∙ splice_splice out place ls (y ++ z) from f.size (omega (arith, f.size))
              ∙ ap (splice out place) (sym l);
          long = g.long ∙ w.long ∙ f.long;
          within = omega arith;
          slack = omega (
            arith,
            w.slack,
            f.size,
            g.size,
            added_short ed (digits 256 2 x.value),
            length_digits 256 2 x.value,
            added_short ed (counted_bytes fs),
            counted_length body a (at' - a) (omega arith),
            (got_all body at 12 q refl).next,
          );
        }

  pub plan_over : {ed : Edition} {place a p : ℕ} {out out' : List ℕ} → Went body (inside ed e) k x.next place out end a p out' → e < a → Stopped body (outside ed) (plan nm k) at (refuse PlanOverrun (a - e) 0)
  unfolding read_body
  plan_over {ed} {place} {a} w h =
      let n = 8 * length body in
      let b = bits_of body in
      let inner : read_body n e k (drop x.next b) ≡ got w.ts (drop a b) = w.reads ∙ pushes_got w.ts (drop a b) in
      record { reads = plan_read ∙ rw (inner, place_at body a w.within, lt-leb a e h) }

  -- a refusal within a plan
  pub plan_no : {ed : Edition} {out out₁ out₂ out₃ : List ℕ} {place from : ℕ} {j j₂ : ℕ → Syntax} {f : Refusal}
      → Ran body (inside ed e) k x.next from out j out₁ (Err f) → Ran body (outside ed) (plan nm k) at place out₂ j₂ out₃ (Err f)
  plan_no y = record { to = record { reads = plan_read ∙ rw y.to.reads } }
