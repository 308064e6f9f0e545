-- What stands behind a ledger's table id once it is converted: plans behind their count, or what was there.
-- Assumes nothing.
use Prim.Native.Nat.{ℕ, ◌+◌, ◌-◌, ◌≤◌}
use mathlib.Core.Path.{◌≡◌, refl, sym, ap, ◌∙◌}
use mathlib.Core.Bool.{true, cond}
use mathlib.Core.List.{List, [], ◌∷◌, ◌++◌}
use native.Mathlib.Omega.{arith}
use lib.Dec.{eqb}
use lib.ListN.{length, take, drop, length-drop}
use lib.Seq.{drop-drop}
use borrow.Author.Tests.{eqb-true}
use Rattle.std.specs.Prelude.{Result, Ok, Err}
use Rattle.format.specs.Digits.{digits, value, Below}
use Rattle.format.specs.Syntax.{Field, Parse, got, refused, and_then}
use Rattle.format.specs.declared.Edition.{Edition}
use Rattle.format.specs.declared.Refusal.{Refusal}
use Rattle.format.specs.declared.Fault.TheVariants.{LedgerMisfit}
use Rattle.format.specs.Tables.{beamhopping}
use Rattle.format.specs.Ledger.{grant, ledger, read_ledger}
use Rattle.format.specs.Whole.{layout, Table, list, entries_of, ledgers, content_of, version, ledger_of, counted, content_as, id_of, edition_of}
use Rattle.format.specs.Convert.{lossless, converted}
use Rattle.format.proofs.DigitLaws.{below_drop, digits_take}
use Rattle.format.proofs.ParseLaws.{cond_got, then_got, grant_got}
use Rattle.format.proofs.FineTables.{fine_beamhopping}
use Rattle.format.proofs.EntryLaws.{counted_good}
use Rattle.format.proofs.Demand.{passed}
use Rattle.format.proofs.ConvertLaws.{other_form, fields_converted, other_content}
use Rattle.runs.specs.Appended.{AppendedAt}
use Rattle.ledger_reader.specs.Makes.{ReadAs}
use Rattle.ledger_converter.specs.Steps.{PlansThere, PlansIn, Plans, ContentIn, Content}

-- ---- a ledger's plans

record Listed (ed : Edition) (l : List ℕ) (t : Table) : Type 0 where
  es : List (List Field)
  is : t ≡ list [] es
  reads : counted ed (length l) beamhopping (value 256 (take 2 (drop 4 l))) (drop 2 (drop 4 l)) ≡ got es []
  count : 2 ≤ length (drop 4 l)

empty : (xs : List ℕ) → length xs ≡ 0 → xs ≡ []
empty [] e = refl
empty (x ∷ xs) e = absurd (omega arith)

listed : (ed : Edition) (l : List ℕ) (t : Table) → content_as ed (length l) (layout 3) (drop 4 l) ≡ got t []
    → Listed ed l t
unfolding content_as read_ledger
listed ed l t e =
    let n : ℕ = length l in
    let bs : List ℕ = drop 4 l in
    let p : Parse (List (List Field)) = counted ed n beamhopping (value 256 (take 2 bs)) (drop 2 bs) in
    let q : Parse Table = and_then p (λ es over. got (list [] es) over) in
    let o = then_got (grant n 2 true bs q)
    (λ u rest. cond (eqb (length rest) 0) (got u []) (refused LedgerMisfit (n - length rest) 0)) e in
    let x = cond_got (eqb (length o.1) 0) _ _ _ _ o.3 in
    let g = grant_got n 2 true bs q o.2 in
    let s = then_got p (λ es over. got (list [] es) over) g.2 in
    let z : got (list [] s.0) s.1 ≡ got o.0 o.1 = s.3 in
    let y : got o.0 [] ≡ got t [] = x.1 in
    let over : s.1 ≡ o.1 = cc in
    let same : list [] s.0 ≡ o.0 = cc in
    let whole : o.0 ≡ t = cc in
    record {
      es = s.0;
      is = sym whole ∙ sym same;
      reads = s.2 ∙ ap (got s.0) (over ∙ empty o.1 (eqb-true (length o.1) 0 x.0));
      count = g.0;
    }

-- a ledger is its content behind four bytes
ledger_is : (ed : Edition) (id : ℕ) (t : Table) (c : List ℕ) → content_of ed t ≡ c
    → ledger_of ed id t ≡ digits 256 2 (length c + 2) ++ (version ed ∷ id ∷ c)
unfolding ledger_of
ledger_is ed id t c e = rw e refl

plans_content : (ed : Edition) (es : List (List Field)) (d : List ℕ) → digits 256 2 (length es) ≡ d
    → content_of ed (list [] es) ≡ d ++ ledgers ed es
unfolding content_of ledger
plans_content ed es d e = rw e refl

module _ {from : Edition} {id : ℕ} {l : List ℕ} (b : Below 256 l) (w : ReadAs from id l) where
  module _ (three : id ≡ 3) where
    plans : Listed from l w.table
    plans =
        let e : id_of l ≡ 3 = sym w.named ∙ three in
        listed from l w.table (ap (λ (x : Edition). content_as x (length l) (layout 3) (drop 4 l)) w.edition
        ∙ ap (λ (k : ℕ). content_as (edition_of l) (length l) (layout k) (drop 4 l)) (sym e)
        ∙ (passed l w.reads).content)

    behind_count : counted from (length l) beamhopping (value 256 (take 2 (drop 4 l))) (drop 6 l) ≡ got plans.es []
    behind_count = ap (counted from (length l) beamhopping (value 256 (take 2 (drop 4 l)))) (sym (drop-drop 2 4 l))
        ∙ plans.reads

    pub plans_there : PlansThere from l
    plans_there = record {
      es = plans.es;
      reads = behind_count;
      count =
          omega (arith, plans.count, length-drop 4 l);
      short = w.short;
    }

    converted_plans : (ed : Edition) → converted ed l ≡ lossless ed plans.es (got (ledger_of ed (id_of l) (list [] plans.es)) [])
    unfolding converted plans entries_of
    converted_plans ed =
        ap (λ (p : Parse Table). and_then p
        (λ t rest. lossless ed (entries_of t) (got (ledger_of ed (id_of l) t) []))) (w.reads
        ∙ ap (λ (t : Table). got t []) plans.is)

    -- the count stands there as it is
    count_same : digits 256 2 (length plans.es) ≡ take 2 (drop 4 l)
    count_same =
        let f = counted_good from (length l) beamhopping fine_beamhopping (value 256 (take 2 (drop 4 l))) (drop 6 l) plans.es [] (below_drop 256 6 l b) behind_count in
        ap (digits 256 2) f.many ∙ digits_take 256 2 (drop 4 l) (below_drop 256 4 l b) plans.count

    pub plans_in : {ed : Edition} {out out' : List ℕ} {r : Result ℕ Refusal} → Plans from ed l out out' r
        → Content ed l out out' r
    plans_in {ed} {out} {out'} {r} x = record { to = go r (x.to plans.es behind_count) }
      where
        go : (s : Result ℕ Refusal) → PlansIn ed plans.es l out out' s → ContentIn ed l out out' s
        go (Ok n) y =
            let c : List ℕ = take 2 (drop 4 l) ++ ledgers ed plans.es in
            record {
              content = c;
              is = converted_plans ed ∙ y.0 (got (ledger_of ed (id_of l) (list [] plans.es)) [])
                  ∙ ap (λ (z : List ℕ). got z []) (ledger_is ed (id_of l) (list [] plans.es) c (plans_content ed plans.es (take 2 (drop 4 l)) count_same));
              appended = y.1;
            }
        go (Err f) y = converted_plans ed ∙ y (got (ledger_of ed (id_of l) (list [] plans.es)) [])

  -- ---- other ids

  pub same_in : {ed : Edition} {out out' : List ℕ} {n : ℕ} → (id ≡ 3 → ⊥) → AppendedAt (drop 4 l) 4 out out' n
      → Content ed l out out' (Ok n)
  same_in {ed} h a =
      let t : Table = w.table in
      let no : id_of l ≡ 3 → ⊥ = λ e. h (w.named ∙ e) in
      record {
        to = record {
          content = drop 4 l;
          is = fields_converted ed l t w.reads (other_form l t b w.reads ed no)
              ∙ ap (λ (z : List ℕ). got z []) (ledger_is ed (id_of l) t (drop 4 l) (other_content ed l t b w.reads no));
          appended = a;
        };
      }
