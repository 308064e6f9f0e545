-- What a conversion gives: which ledgers it takes, what is lost where it does not, there and back, and that the result
-- is a ledger again, of the same fields.
-- Assumes nothing.
use mathlib.Core.Path.{◌≡◌, refl, sym, ap, ap₂, ◌∙◌, subst}
use mathlib.Core.Bool.{Bool, true, false, cond, ◌&&◌, and-eq-true_iff}
use mathlib.Core.Logic.{◌↔◌}
use mathlib.Core.List.{List, [], ◌∷◌, ◌++◌}
use Prim.Native.Nat.{ℕ, zero, suc, ◌+◌, ◌*◌, ◌/◌, ◌<◌, ◌≤◌}
use native.Mathlib.Omega.{arith}
use lib.Dec.{eqb}
use lib.ListN.{length, take, drop, get_or, length-take}
use borrow.Author.Tests.{eq-eqb, eqb-true, eqb-false}
use Rattle.format.specs.Digits.{digits, value, Below}
use Rattle.format.specs.Syntax.{Field, num, flags, bytes, len, filler, Parse, got, refused, and_then}
use Rattle.format.specs.declared.Fault.{Fault}
use Rattle.format.specs.declared.Fault.TheVariants.{PlanInexact}
use Rattle.format.specs.declared.Edition.{Edition}
use Rattle.format.specs.declared.Edition.TheVariants.{First, Second}
use Rattle.format.specs.Body.{plain}
use Rattle.format.specs.Whole.{layout, layout_before, Table, entries_of, body_read_as, Accepted, AcceptedBefore, body_of, kept_of, content_of, version, ledger_of, id_of, edition_of, ledger_read}
use Rattle.format.specs.Calls.{restored}
use Rattle.format.specs.Convert.{exact, all_exact, lossless, converted}
use Rattle.format.proofs.DigitLaws.{value_lt, below_take}
use Rattle.format.proofs.ParseLaws.{got_not_refused, then_got}
use Rattle.format.proofs.Forms.{form, forms}
use Rattle.format.proofs.TableLaws.{GoodTable, fine_layout, form_of, kept_form_of}
use Rattle.format.proofs.Demand.{IsLedger, fine_then, accepted_good, accepted_before, body_again, passed, ledger_all, ledger_length, ledger_again, read_accepted, id_of_lem, edition_of_lem}
use Rattle.format.proofs.EditionLaws.{Planless, planless_layout, content_same}
use Rattle.format.proofs.PlanlessLaws.{planless_before_layout, planless_table, entries_table, table_entries, form_of_2}

-- ---- exact fields are those of edition 1

both : (a b : Bool) → a ≡ true → b ≡ true → (a && b) ≡ true
both a b x y = (and-eq-true_iff a b).1 (x, y)

empty : (xs : List ℕ) → length xs ≡ 0 → [] ≡ xs
empty [] l = refl
empty (x ∷ xs) l = absurd (omega arith)

-- an exact entry comes back through edition 1 as it is
pub exact_form : (ts : List Field) → exact ts ≡ true → form First ts ≡ ts
unfolding exact form
exact_form [] e = refl
exact_form (num g nm w v ∷ ts) e = ap (λ (x : List Field). num g nm w v ∷ x) (exact_form ts e)
exact_form (flags nm bs ∷ ts) e = ap (λ (x : List Field). flags nm bs ∷ x) (exact_form ts e)
exact_form (bytes nm bs ∷ ts) e = ap (λ (x : List Field). bytes nm bs ∷ x) (exact_form ts e)
exact_form (len nm v ∷ ts) e =
    let a = (and-eq-true_iff (eqb v (length (plain ts) / 8)) (exact ts)).0 e in
    ap₂ (λ (k : ℕ) (x : List Field). len nm k ∷ x) (sym (eqb-true v (length (plain ts) / 8) a.0)) (exact_form ts a.1)
exact_form (filler fs ∷ ts) e =
    let a = (and-eq-true_iff (eqb (length fs) 0) (exact ts)).0 e in
    ap₂ (λ (k : List ℕ) (x : List Field). filler k ∷ x) (empty fs (eqb-true (length fs) 0 a.0)) (exact_form ts a.1)

-- and only an exact entry does
pub form_exact : (ts : List Field) → form First ts ≡ ts → exact ts ≡ true
unfolding exact form
form_exact [] e = refl
form_exact (num g nm w v ∷ ts) e = let z : form First ts ≡ ts = cc in form_exact ts z
form_exact (flags nm bs ∷ ts) e = let z : form First ts ≡ ts = cc in form_exact ts z
form_exact (bytes nm bs ∷ ts) e = let z : form First ts ≡ ts = cc in form_exact ts z
form_exact (len nm v ∷ ts) e =
    let z : form First ts ≡ ts = cc in
    let y : length (plain ts) / 8 ≡ v = cc in
    both (eqb v (length (plain ts) / 8)) (exact ts) (eq-eqb v (length (plain ts) / 8) (sym y)) (form_exact ts z)
form_exact (filler fs ∷ ts) e =
    let z : form First ts ≡ ts = cc in
    let y : [] ≡ fs = cc in
    both (eqb (length fs) 0) (exact ts) (eq-eqb (length fs) 0 (ap length (sym y))) (form_exact ts z)

-- ---- entries

-- the first entry that is not exact
pub record Lost (es : List (List Field)) (i : ℕ) : Type 0 where
  pub within : i < length es
  pub lost : exact (get_or es i []) ≡ false
  pub least : (j : ℕ) → j < i → exact (get_or es j []) ≡ true

-- what the test of entries finds, where i is the index of the first one here
data Sought (i : ℕ) (es : List (List Field)) (p : Parse (List ℕ)) : Type 0 where
  all : forms First es ≡ es → Sought i es p
  fails : (j : ℕ) → Lost es j → all_exact i es p ≡ refused PlanInexact (j + i) 0 → Sought i es p

lost_here : (ts : List Field) (es : List (List Field)) → exact ts ≡ false → Lost (ts ∷ es) 0
lost_here ts es e = record { within = omega arith; lost = e; least = λ j h. absurd (omega arith) }

lost_later : (ts : List Field) (es : List (List Field)) (i : ℕ) → exact ts ≡ true → Lost es i → Lost (ts ∷ es) (suc i)
lost_later ts es i e r = record { within = omega (arith, r.within); lost = r.lost; least = least }
  where
    least : (j : ℕ) → j < suc i → exact (get_or (ts ∷ es) j []) ≡ true
    least zero h = e
    least (suc j) h = r.least j (omega arith)

sought : (i : ℕ) (es : List (List Field)) (p : Parse (List ℕ)) → Sought i es p
unfolding all_exact forms
sought i [] p = all refl
sought i (ts ∷ es) p = go (exact ts) refl (sought (suc i) es p)
  where
    more : Parse (List ℕ)
    more = all_exact (suc i) es p

    at_it : Bool → Parse (List ℕ)
    at_it b = cond b more (refused PlanInexact i 0)

    go : (t : Bool) → exact ts ≡ t → Sought (suc i) es p → Sought i (ts ∷ es) p
    go true e (all f) = all (ap₂ (λ (x : List Field) (y : List (List Field)). x ∷ y) (exact_form ts e) f)
    go true e (fails j r q) =
        let z : j + suc i ≡ suc j + i = omega arith in
        fails (suc j) (lost_later ts es j e r) (ap at_it e ∙ q ∙ ap (λ (k : ℕ). refused PlanInexact k 0) z)
    go false e r =
        let z : i ≡ 0 + i = omega arith in
        fails 0 (lost_here ts es e) (ap at_it e ∙ ap (λ (k : ℕ). refused PlanInexact k 0) z)

-- entries that come back through edition 1 as they are pass its test
exact_all : (i : ℕ) (es : List (List Field)) (p : Parse (List ℕ)) → forms First es ≡ es → all_exact i es p ≡ p
unfolding all_exact forms
exact_all i [] p e = refl
exact_all i (ts ∷ es) p e =
    let a : form First ts ≡ ts = cc in
    let b : forms First es ≡ es = cc in
    ap (λ (t : Bool). cond t (all_exact (suc i) es p) (refused PlanInexact i 0)) (form_exact ts a)
    ∙ exact_all (suc i) es p b

lossless_all : (ed : Edition) (es : List (List Field)) (p : Parse (List ℕ)) → forms ed es ≡ es → lossless ed es p ≡ p
lossless_all First es p e = exact_all 0 es p e
lossless_all Second es p e = refl

-- ---- a ledger that is read

pub inj : {t u : Table} → got t [] ≡ got u [] → t ≡ u
inj e = cc

-- where a ledger is read it has its length in front, and that length fits
pub read_framed : (l : List ℕ) (t : Table) (rest : List ℕ) → Below 256 l → ledger_read l ≡ got t rest
    → (4 ≤ length l) × (length l ≤ 65537)
read_framed l t rest h e =
    let p = passed l e in
    let s : length (take 2 l) ≡ 2 = omega (arith, length-take 2 l, p.four) in
    let v : value 256 (take 2 l) < 65536 = rw s at (value_lt 256 (take 2 l) (below_take 256 2 l h)) in
    (p.four, omega (arith, p.long, p.four, v))

module _ (l : List ℕ) (t : Table) (h : Below 256 l) (e : ledger_read l ≡ got t []) where
  -- the body that comes back was accepted once, and has the ledger's fields
  pub read_body_accepted : AcceptedBefore (id_of l) (body_of (edition_of l) t) t
  read_body_accepted = (read_accepted l t h e).0

  -- and they are fields that its description allowed
  pub good : GoodTable (layout_before (layout (id_of l))) t
  good = (accepted_good (fine_then (id_of l)) read_body_accepted).0

  -- the ledger's fields come back through its edition as they are
  pub own_form : form_of (edition_of l) t ≡ t
  own_form = inj (sym (ledger_again (edition_of l) read_body_accepted) ∙ ap ledger_read (read_accepted l t h e).1 ∙ e)

  -- where they do so through an edition, its ledger of them is read as the same fields
  pub reads_same : (ed : Edition) → form_of ed t ≡ t → ledger_read (ledger_of ed (id_of l) t) ≡ got t []
  reads_same ed f = ledger_again ed read_body_accepted ∙ ap (λ (u : Table). got u []) f

  -- under another id than 3 they do so through either
  pub other_form : (ed : Edition) → (id_of l ≡ 3 → ⊥) → form_of ed t ≡ t
  other_form ed n = planless_table ed (planless_before_layout (layout (id_of l)) (planless_layout (id_of l) n)) good

-- fields that come back through the wanted edition as they are make its ledger
pub fields_converted : (ed : Edition) (l : List ℕ) (t : Table) → ledger_read l ≡ got t [] → form_of ed t ≡ t
    → converted ed l ≡ got (ledger_of ed (id_of l) t) []
unfolding converted
fields_converted ed l t e f =
    ap (λ (p : Parse Table). and_then p (λ u rest. lossless ed (entries_of u) (got (ledger_of ed (id_of l) u) []))) e
    ∙ lossless_all ed (entries_of t) (got (ledger_of ed (id_of l) t) []) (table_entries ed t f)

-- ---- what a conversion comes to, where the ledger is read

-- either nothing is lost, and it is the ledger of the same fields; or it is 29: only of plans, only from edition 2 to
-- 1, and with the index of the first plan that is not exact
pub data Outcome (ed : Edition) (l : List ℕ) (t : Table) : Type 0 where
  same_fields : form_of ed t ≡ t → converted ed l ≡ got (ledger_of ed (id_of l) t) [] → Outcome ed l t
  loses : (i : ℕ) → ed ≡ First → edition_of l ≡ Second → id_of l ≡ 3 → Lost (entries_of t) i
      → converted ed l ≡ refused PlanInexact i 0 → Outcome ed l t

-- a table of plans comes back through edition 1 as it is if its entries do
plans_form : (l : List ℕ) (t : Table) → Below 256 l → ledger_read l ≡ got t [] → id_of l ≡ 3
    → forms First (entries_of t) ≡ entries_of t → form_of First t ≡ t
plans_form l t h e i f =
    entries_table First tt (subst (λ (k : ℕ). GoodTable (layout_before (layout k)) t) i (good l t h e)) f

pub outcome : (ed : Edition) (l : List ℕ) (t : Table) → Below 256 l → ledger_read l ≡ got t [] → Outcome ed l t
unfolding converted
outcome Second l t h e = same_fields (form_of_2 t) (fields_converted Second l t e (form_of_2 t))
outcome First l t h e = by_id (eqb (id_of l) 3) refl
  where
    p : Parse (List ℕ)
    p = got (ledger_of First (id_of l) t) []

    after : Parse Table → Parse (List ℕ)
    after q = and_then q (λ u rest. lossless First (entries_of u) (got (ledger_of First (id_of l) u) []))

    is : form_of First t ≡ t → Outcome First l t
    is f = same_fields f (fields_converted First l t e f)

    reached : (i : ℕ) → all_exact 0 (entries_of t) p ≡ refused PlanInexact (i + 0) 0
        → after (ledger_read l) ≡ refused PlanInexact i 0
    reached i q = let z : i + 0 ≡ i = omega arith in ap after e ∙ q ∙ ap (λ (k : ℕ). refused PlanInexact k 0) z

    by_entries : id_of l ≡ 3 → edition_of l ≡ Second → Sought 0 (entries_of t) p → Outcome First l t
    by_entries three c (all f) = is (plans_form l t h e three f)
    by_entries three c (fails j r q) = loses j refl c three r (reached j q)

    by_edition : (x : Edition) → edition_of l ≡ x → id_of l ≡ 3 → Outcome First l t
    by_edition First c three = is (subst (λ (x : Edition). form_of x t ≡ t) c (own_form l t h e))
    by_edition Second c three = by_entries three c (sought 0 (entries_of t) p)

    by_id : (b : Bool) → eqb (id_of l) 3 ≡ b → Outcome First l t
    by_id true q = by_edition (edition_of l) refl (eqb-true (id_of l) 3 q)
    by_id false q = is (other_form l t h e First (eqb-false (id_of l) 3 q))

-- the ledger's own refusals come first, whatever edition is wanted
pub own_faults : (ed : Edition) (l : List ℕ) (a : Fault) (b c : ℕ) → ledger_read l ≡ refused a b c
    → converted ed l ≡ refused a b c
unfolding converted
own_faults ed l a b c e = rw e

-- ---- ids without plans

content_behind : (ed : Edition) (id : ℕ) (t : Table) → content_of ed t ≡ drop 4 (ledger_of ed id t)
unfolding ledger_of digits
content_behind ed id t = refl

-- under another id than 3 the content is the same in either edition
pub other_content : (ed : Edition) (l : List ℕ) (t : Table) → Below 256 l → ledger_read l ≡ got t []
    → (id_of l ≡ 3 → ⊥) → content_of ed t ≡ drop 4 l
other_content ed l t h e n =
    let p : Planless (layout_before (layout (id_of l))) =
    planless_before_layout (layout (id_of l)) (planless_layout (id_of l) n) in
    content_same ed p (good l t h e)
    ∙ sym (content_same (edition_of l) p (good l t h e))
    ∙ content_behind (edition_of l) (id_of l) t
    ∙ ap (drop 4) (read_accepted l t h e).1

-- with the same content two ledgers differ in the version byte alone
versioned : (ed x : Edition) (id : ℕ) (t : Table) → content_of ed t ≡ content_of x t
    → ledger_of ed id t ≡ take 2 (ledger_of x id t) ++ (version ed ∷ drop 3 (ledger_of x id t))
unfolding ledger_of digits
versioned ed x id t q = rw q

-- there a conversion changes the version byte alone: the one at place 2
pub other_converted : (ed : Edition) (l : List ℕ) (t : Table) → Below 256 l → ledger_read l ≡ got t []
    → (id_of l ≡ 3 → ⊥)
    → converted ed l ≡ got (take 2 l ++ (version ed ∷ drop 3 l)) []
other_converted ed l t h e n =
    let same : content_of ed t ≡ content_of (edition_of l) t =
    other_content ed l t h e n ∙ sym (other_content (edition_of l) l t h e n) in
    fields_converted ed l t e (other_form l t h e ed n)
    ∙ ap (λ (x : List ℕ). got x []) (versioned ed (edition_of l) (id_of l) t same
    ∙ ap (λ (x : List ℕ). take 2 x ++ (version ed ∷ drop 3 x)) (read_accepted l t h e).1)

-- ---- a conversion that is accepted

-- its result: the ledger of the same fields, which is read as them again
pub record Converts (ed : Edition) (l l' : List ℕ) : Type 0 where
  pub table : Table
  pub reads : ledger_read l ≡ got table []
  pub same : form_of ed table ≡ table
  pub is : l' ≡ ledger_of ed (id_of l) table
  pub again : ledger_read l' ≡ got table []

pub accepted_conversion : (ed : Edition) (l : List ℕ) {l' rest : List ℕ} → Below 256 l → converted ed l ≡ got l' rest
    → Converts ed l l'
unfolding converted
accepted_conversion ed l {l'} {rest} h e =
    let o = then_got (ledger_read l) (λ t r. lossless ed (entries_of t) (got (ledger_of ed (id_of l) t) [])) e in
    let q : ledger_read l ≡ got o.0 [] = rw (ledger_all l o.2) at o.2 in
    go o.0 q (outcome ed l o.0 h q)
  where
    go : (t : Table) → ledger_read l ≡ got t [] → Outcome ed l t → Converts ed l l'
    go t q (same_fields f c) =
        let s : got (ledger_of ed (id_of l) t) [] ≡ got l' rest = sym c ∙ e in
        let z : l' ≡ ledger_of ed (id_of l) t = cc in
        record { table = t; reads = q; same = f; is = z; again = ap ledger_read z ∙ reads_same l t h q ed f }
    go t q (loses i _ _ _ _ c) = absurd (got_not_refused (sym e ∙ c))

-- its result names the ledger's id and the wanted edition
pub result_id : {ed : Edition} {l l' : List ℕ} → Converts ed l l' → id_of l' ≡ id_of l
result_id {ed} {l} r = ap id_of r.is ∙ id_of_lem ed (id_of l) r.table

pub result_edition : {ed : Edition} {l l' : List ℕ} → Converts ed l l' → edition_of l' ≡ ed
result_edition {ed} {l} r = ap edition_of r.is ∙ edition_of_lem ed (id_of l) r.table

-- "There and back gives the first bytes again, from either side, whenever the conversion is accepted."
pub there_and_back : (ed : Edition) (l : List ℕ) {l' rest : List ℕ} → Below 256 l → converted ed l ≡ got l' rest
    → converted (edition_of l) l' ≡ got l []
there_and_back ed l {l'} h e =
    let r = accepted_conversion ed l h e in
    let same_id = ap (λ (k : ℕ). ledger_of (edition_of l) k r.table) (result_id r) in
    fields_converted (edition_of l) l' r.table r.again (own_form l r.table h r.reads)
    ∙ ap (λ (x : List ℕ). got x []) (same_id ∙ (read_accepted l r.table h r.reads).1)

-- "A ledger already in the wanted edition is copied."
pub copied : (l : List ℕ) (t : Table) → Below 256 l → ledger_read l ≡ got t [] → converted (edition_of l) l ≡ got l []
copied l t h e =
    fields_converted (edition_of l) l t e (own_form l t h e)
    ∙ ap (λ (x : List ℕ). got x []) (read_accepted l t h e).1

-- "The converter takes edition 1 to 2": always
pub to_second : (l : List ℕ) (t : Table) → ledger_read l ≡ got t []
    → converted Second l ≡ got (ledger_of Second (id_of l) t) []
to_second l t e = fields_converted Second l t e (form_of_2 t)

-- "and edition 2 to 1 where nothing is lost by it": exactly where the kept body is the plain one
pub to_first : (l : List ℕ) (t : Table) → Below 256 l → ledger_read l ≡ got t []
    → (converted First l ≡ got (ledger_of First (id_of l) t) []) ↔ (kept_of t ≡ body_of First t)
to_first l t h e = (there, back)
  where
    there : converted First l ≡ got (ledger_of First (id_of l) t) [] → kept_of t ≡ body_of First t
    there c =
        let r = accepted_conversion First l h c in
        let z : r.table ≡ t = inj (sym r.reads ∙ e) in
        let f : form_of First t ≡ t = subst (λ (u : Table). form_of First u ≡ u) z r.same in
        ap kept_of (sym f) ∙ kept_form_of First t

    back : kept_of t ≡ body_of First t → converted First l ≡ got (ledger_of First (id_of l) t) []
    back q =
        let a = read_body_accepted l t h e in
        let kept_reads = (body_again Second (fine_then (id_of l)) a).reads in
        let plain_reads = (body_again First (fine_then (id_of l)) a).reads in
        let f : form_of First t ≡ t =
        inj (sym plain_reads ∙ ap (body_read_as (layout_before (layout (id_of l)))) (sym q) ∙ kept_reads)
        ∙ form_of_2 t in
        fields_converted First l t e f

-- nothing is lost: the body that comes back is the same
pub same_body : (ed : Edition) (l : List ℕ) {l' rest : List ℕ} → Below 256 l → converted ed l ≡ got l' rest
    → restored l' ≡ restored l
unfolding restored
same_body ed l {l'} h e =
    let r = accepted_conversion ed l h e in
    let t : Table = r.table in
    let k : body_of (edition_of l') t ≡ kept_of t =
    ap (λ (x : Edition). body_of x t) (result_edition r) ∙ sym (kept_form_of ed t) ∙ ap kept_of r.same in
    let k' : body_of (edition_of l) t ≡ kept_of t =
    sym (kept_form_of (edition_of l) t) ∙ ap kept_of (own_form l t h r.reads) in
    ap (λ (p : Parse Table). and_then p (λ u _. got (body_of (edition_of l') u) [])) r.again
    ∙ ap (λ (x : List ℕ). got x []) (k ∙ sym k')
    ∙ sym (ap (λ (p : Parse Table). and_then p (λ u _. got (body_of (edition_of l) u) [])) r.reads)

-- ---- the result is a ledger of the wanted edition

-- of a body accepted before: stored extensions above 299 are converted too
pub result_stored : (ed : Edition) (l : List ℕ) {l' rest : List ℕ} → Below 256 l → converted ed l ≡ got l' rest
    → IsLedger AcceptedBefore ed l'
result_stored ed l h e =
    let r = accepted_conversion ed l h e in
    record {
      id = id_of l;
      body = body_of (edition_of l) r.table;
      table = r.table;
      accepted = read_body_accepted l r.table h r.reads;
      is = sym r.is;
    }

-- of a body accepted now, if the first ledger is one of a body accepted now
pub result_now : (ed ed' : Edition) (l : List ℕ) {l' rest : List ℕ} → Below 256 l → IsLedger Accepted ed' l
    → converted ed l ≡ got l' rest → IsLedger Accepted ed l'
result_now ed ed' l h w e =
    let r = accepted_conversion ed l h e in
    let i : id_of l ≡ w.id = ap id_of (sym w.is) ∙ id_of_lem ed' w.id w.table in
    let z : r.table ≡ form_of ed' w.table =
    inj (sym r.reads ∙ ap ledger_read (sym w.is) ∙ ledger_again ed' (accepted_before w.accepted)) in
    record {
      id = w.id;
      body = body_of ed' w.table;
      table = form_of ed' w.table;
      accepted = body_again ed' (fine_layout w.id) w.accepted;
      is = ap₂ (ledger_of ed) (sym i) (sym z) ∙ sym r.is;
    }

-- the bound
pub result_length : (ed : Edition) (l : List ℕ) {l' rest b : List ℕ} → Below 256 l → converted ed l ≡ got l' rest
    → restored l ≡ got b [] → length l' ≤ 6 + 2 * length b
unfolding restored
result_length ed l {l'} {rest} {b} h e q =
    let r = accepted_conversion ed l h e in
    let s : got (body_of (edition_of l) r.table) [] ≡ got b [] =
    sym (ap (λ (p : Parse Table). and_then p (λ u _. got (body_of (edition_of l) u) [])) r.reads) ∙ q in
    let z : body_of (edition_of l) r.table ≡ b = cc in
    rw (r.is) (rw z at (ledger_length ed (fine_then (id_of l)) (read_body_accepted l r.table h r.reads)))
