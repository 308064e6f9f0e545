-- S-31: entries and whole tables without covariance: they are those of a body that is accepted as the first was, they
-- take no more room, once is enough, and the other fields alone decide them.
-- Assumes nothing.
use mathlib.Core.Path.{◌≡◌, refl, sym, ap, ap₂, ◌∙◌, subst}
use mathlib.Core.Bool.{Bool, true, false, cond}
use mathlib.Core.List.{List, [], ◌∷◌, ◌++◌, map}
use Prim.Native.Nat.{ℕ, suc, ◌+◌, ◌/◌, ◌≤◌}
use native.Mathlib.Omega.{arith}
use lib.Dec.{eqb}
use lib.ListN.{length, length-append, length-map}
use borrow.Author.Tests.{eqb-true}
use Rattle.std.specs.Prelude.{All}
use Rattle.std.proofs.lemmas.List.Elements.{All-nil, All-cons}
use Rattle.format.specs.Digits.{digits}
use Rattle.format.specs.Syntax.{Syntax, before, Field}
use Rattle.format.specs.declared.Edition.{Edition}
use Rattle.format.specs.declared.Edition.TheVariants.{Second}
use Rattle.format.specs.Tables.{position3}
use Rattle.format.specs.Body.{kept}
use Rattle.format.specs.Ledger.{ledger}
use Rattle.format.specs.Whole.{Layout, layout, layout_before, Table, one, list, as_it_is, entries_of, AcceptedAs, Accepted, AcceptedBefore, laids, ledgers, body_of, kept_of, content_of, version, ledger_of}
use Rattle.format.specs.Redact.{Clean, redact, others, each, satellites}
use Rattle.format.proofs.DigitLaws.{length_digits, length_bytes}
use Rattle.format.proofs.Good.{Good}
use Rattle.format.proofs.EntryLaws.{AllGood}
use Rattle.format.proofs.TableLaws.{FineLayout, fine_layout, GoodTable, good_list, form_of}
use Rattle.format.proofs.Demand.{fine_then, accepted_good, good_accepted, body_again}
use Rattle.format.proofs.EditionLaws.{planless_layout}
use Rattle.format.proofs.PlanlessLaws.{planless_before_layout, planless_table, form_of_2}
use Rattle.format.proofs.RedactFields.{kept_shorter, ledger_shorter, redact_again, others_kept}
use Rattle.format.proofs.RedactGood.{redact_good, redact_good_before}
use Rattle.format.proofs.RedactOthers.{same_redact, redact_clean}

-- ---- entries

-- each is one that its description allows
all_redacted : (s : Syntax) → ((l i : Bool) (ts : List Field) → Good l i s ts → Good l i s (redact ts))
    → (es : List (List Field)) → AllGood s es → AllGood s (map redact es)
all_redacted s k [] g = tt
all_redacted s k (ts ∷ es) g =
    (rw (length-map es redact) (k (eqb (length es) 0) false ts g.0), all_redacted s k es g.1)

-- together they take no more room, in a kept body or a ledger
laids_shorter : (es : List (List Field)) → length (laids Second (map redact es)) ≤ length (laids Second es)
unfolding laids
laids_shorter [] = omega arith
laids_shorter (ts ∷ es) =
    omega (
      arith,
      length-append (kept ts) (laids Second es),
      length-append (kept (redact ts)) (laids Second (map redact es)),
      kept_shorter ts,
      laids_shorter es,
    )

ledgers_shorter : (ed : Edition) (es : List (List Field)) → length (ledgers ed (map redact es)) ≤ length (ledgers ed es)
unfolding ledgers
ledgers_shorter ed [] = omega arith
ledgers_shorter ed (ts ∷ es) =
    omega (
      arith,
      length-append (ledger ed ts) (ledgers ed es),
      length-append (ledger ed (redact ts)) (ledgers ed (map redact es)),
      ledger_shorter ed ts,
      ledgers_shorter ed es,
    )

-- once is enough, and all else is kept
entries_redact_again : (es : List (List Field)) → map redact (map redact es) ≡ map redact es
entries_redact_again [] = refl
entries_redact_again (ts ∷ es) =
    ap₂ (λ (x : List Field) (y : List (List Field)). x ∷ y) (redact_again ts) (entries_redact_again es)

entries_others : (es : List (List Field)) → map others (map redact es) ≡ map others es
entries_others [] = refl
entries_others (ts ∷ es) =
    ap₂ (λ (x : List Field) (y : List (List Field)). x ∷ y) (others_kept ts) (entries_others es)

-- entries whose other fields are the same are the same without covariance
entries_same : (es us : List (List Field)) → AllGood (before position3) es → AllGood (before position3) us
    → map others es ≡ map others us → map redact es ≡ map redact us
entries_same [] [] g q e = refl
entries_same [] (us ∷ fs) g q e =
    absurd (let z : ◌≡◌ {A = ℕ} 0 (suc (length (map others fs))) = ap length e in omega arith)
entries_same (ts ∷ es) [] g q e =
    absurd (let z : ◌≡◌ {A = ℕ} (suc (length (map others es))) 0 = ap length e in omega arith)
entries_same (ts ∷ es) (us ∷ fs) g q e =
    let a : others ts ≡ others us = cc in
    let b : map others es ≡ map others fs = cc in
    ap₂ (λ (x : List Field) (y : List (List Field)). x ∷ y) (same_redact g.0 q.0 a) (entries_same es fs g.1 q.1 b)

-- nothing of covariance is left in any
entries_clean : (es : List (List Field)) → AllGood (before position3) es
    → All (λ (ts : List Field). All Clean ts) (map redact es)
entries_clean [] g = All-nil (λ (ts : List Field). All Clean ts)
entries_clean (ts ∷ es) g =
    All-cons (λ (us : List Field). All Clean us) (redact ts) (map redact es) (redact_clean g.0) (entries_clean es g.1)

-- ---- tables of satellites

-- the layout allows them, now and before
good_each : {t : Table} → GoodTable (layout 4) t → GoodTable (layout 4) (each redact t)
good_each (good_list {es = es} g gs) = good_list g (all_redacted position3 (λ _ _ _. redact_good) es gs)

good_each_before : {t : Table} → GoodTable (layout_before (layout 4)) t
    → GoodTable (layout_before (layout 4)) (each redact t)
good_each_before (good_list {es = es} g gs) =
    good_list g (all_redacted (before position3) (λ _ _ _. redact_good_before) es gs)

-- they take no more room
kept_size : (t : Table) → length (kept_of (each redact t)) ≤ length (kept_of t)
unfolding body_of
kept_size (one ts) = omega arith
kept_size (as_it_is b) = omega arith
kept_size (list hs es) =
    let p : List ℕ = kept hs ++ laids Second es in
    let q : List ℕ = kept hs ++ laids Second (map redact es) in
    omega (
      arith,
      length_bytes (length p / 8) p,
      length_bytes (length q / 8) q,
      length-append (kept hs) (laids Second es),
      length-append (kept hs) (laids Second (map redact es)),
      laids_shorter es,
    )

content_size : (ed : Edition) (t : Table) → length (content_of ed (each redact t)) ≤ length (content_of ed t)
unfolding content_of
content_size ed (one ts) = omega arith
content_size ed (as_it_is b) = omega arith
content_size ed (list hs es) =
    let n : List ℕ = digits 256 2 (length es) in
    let m : List ℕ = digits 256 2 (length (map redact es)) in
    omega (
      arith,
      length-append (ledger ed hs) (n ++ ledgers ed es),
      length-append (ledger ed hs) (m ++ ledgers ed (map redact es)),
      length-append n (ledgers ed es),
      length-append m (ledgers ed (map redact es)),
      length_digits 256 2 (length es),
      length_digits 256 2 (length (map redact es)),
      ledgers_shorter ed es,
    )

-- once is enough, all else is kept, and the other fields alone decide them
each_again : (t : Table) → each redact (each redact t) ≡ each redact t
each_again (one ts) = refl
each_again (as_it_is b) = refl
each_again (list hs es) = ap (list hs) (entries_redact_again es)

each_others : (t : Table) → each others (each redact t) ≡ each others t
each_others (one ts) = refl
each_others (as_it_is b) = refl
each_others (list hs es) = ap (list hs) (entries_others es)

list_parts : {hs hs' : List Field} {es es' : List (List Field)} → list hs es ≡ list hs' es' → (hs ≡ hs') × (es ≡ es')
list_parts e = (cc, cc)

each_same : {t t' : Table} → GoodTable (layout_before (layout 4)) t → GoodTable (layout_before (layout 4)) t'
    → each others t ≡ each others t' → each redact t ≡ each redact t'
each_same (good_list {es = es} g gs) (good_list {es = es'} q qs) e =
    let a = list_parts e in
    ap₂ list a.0 (entries_same es es' gs qs a.1)

-- nothing of covariance is left
pub each_clean : {t : Table} → GoodTable (layout_before (layout 4)) t
    → All (λ (ts : List Field). All Clean ts) (entries_of (each redact t))
unfolding entries_of
each_clean (good_list {es = es} g gs) = entries_clean es gs

-- ---- tables under any id

is_four : (id : ℕ) → eqb id 4 ≡ true → 4 ≡ id
is_four id e = sym (eqb-true id 4 e)

-- without covariance the fields are those of a body that is accepted as the first was; l: the layout now or before
four_as : (l : Layout) {b : List ℕ} {t : Table} → FineLayout l
    → ((u : Table) → GoodTable l u → GoodTable l (each redact u))
    → AcceptedAs l 4 b t → AcceptedAs l 4 (kept_of (each redact t)) (each redact t)
four_as l {b} {t} x k p =
    let g = accepted_good x p in
    good_accepted l 4 x p.byte (k t g.0) (omega (arith, kept_size t, g.1, g.2))

-- so of any table: under another id it is the table itself; before S-23, and now
pub under : (id : ℕ) {b : List ℕ} {t : Table} → AcceptedBefore id b t
    → AcceptedBefore id (kept_of (satellites redact id t)) (satellites redact id t)
unfolding satellites
under id {b} {t} p = go (eqb id 4) refl
  where
    go : (c : Bool) → eqb id 4 ≡ c → AcceptedBefore id (kept_of (cond c (each redact t) t)) (cond c (each redact t) t)
    go true e =
        subst (λ (j : ℕ). AcceptedBefore j b t → AcceptedBefore j (kept_of (each redact t)) (each redact t))
        (is_four id e) (four_as (layout_before (layout 4)) (fine_then 4) (λ _. good_each_before)) p
    go false e = rw (form_of_2 t) at (body_again Second (fine_then id) p)

pub under_now : (id : ℕ) {b : List ℕ} {t : Table} → Accepted id b t
    → Accepted id (kept_of (satellites redact id t)) (satellites redact id t)
unfolding satellites
under_now id {b} {t} p = go (eqb id 4) refl
  where
    go : (c : Bool) → eqb id 4 ≡ c → Accepted id (kept_of (cond c (each redact t) t)) (cond c (each redact t) t)
    go true e =
        subst (λ (j : ℕ). Accepted j b t → Accepted j (kept_of (each redact t)) (each redact t)) (is_four id e)
        (four_as (layout 4) (fine_layout 4) (λ _. good_each)) p
    go false e = rw (form_of_2 t) at (body_again Second (fine_layout id) p)

-- what comes back through an edition as it is still does: satellites have no plans
pub under_form : (id : ℕ) (ed : Edition) (t : Table) → GoodTable (layout_before (layout id)) t → form_of ed t ≡ t
    → form_of ed (satellites redact id t) ≡ satellites redact id t
unfolding satellites
under_form id ed t g f = go (eqb id 4) refl
  where
    four : GoodTable (layout_before (layout 4)) t → form_of ed (each redact t) ≡ each redact t
    four q =
        planless_table ed (planless_before_layout (layout 4) (planless_layout 4 (λ e. absurd (omega (arith, e)))))
        (good_each_before q)

    go : (c : Bool) → eqb id 4 ≡ c → form_of ed (cond c (each redact t) t) ≡ cond c (each redact t) t
    go true e = four (subst (λ (j : ℕ). GoodTable (layout_before (layout j)) t) (eqb-true id 4 e) g)
    go false e = f

-- the ledger is no longer
ledger_size : (ed : Edition) (id : ℕ) (t : Table) → length (ledger_of ed id t) ≡ 4 + length (content_of ed t)
unfolding ledger_of
ledger_size ed id t =
    length-append (digits 256 2 (length (content_of ed t) + 2)) (version ed ∷ id ∷ content_of ed t)
    ∙ omega (arith, length_digits 256 2 (length (content_of ed t) + 2))

pub under_size : (id : ℕ) (ed : Edition) (t : Table)
    → length (ledger_of ed id (satellites redact id t)) ≤ length (ledger_of ed id t)
unfolding satellites
under_size id ed t = go (eqb id 4)
  where
    go : (c : Bool) → length (ledger_of ed id (cond c (each redact t) t)) ≤ length (ledger_of ed id t)
    go true = omega (arith, ledger_size ed id t, ledger_size ed id (each redact t), content_size ed t)
    go false = omega arith

-- once is enough
pub under_again : (id : ℕ) (t : Table) → satellites redact id (satellites redact id t) ≡ satellites redact id t
unfolding satellites
under_again id t = go (eqb id 4)
  where
    go : (c : Bool)
        → cond c (each redact (cond c (each redact t) t)) (cond c (each redact t) t) ≡ cond c (each redact t) t
    go true = each_again t
    go false = refl

-- "all else kept"
pub under_others : (id : ℕ) (t : Table) → satellites others id (satellites redact id t) ≡ satellites others id t
unfolding satellites
under_others id t = go (eqb id 4)
  where
    go : (c : Bool)
        → cond c (each others (cond c (each redact t) t)) (cond c (each redact t) t) ≡ cond c (each others t) t
    go true = each_others t
    go false = refl

-- tables whose other fields are the same are the same without covariance
pub under_same : (id : ℕ) {t t' : Table} → GoodTable (layout_before (layout id)) t
    → GoodTable (layout_before (layout id)) t' → satellites others id t ≡ satellites others id t'
    → satellites redact id t ≡ satellites redact id t'
unfolding satellites
under_same id {t} {t'} g g' q = go (eqb id 4) refl q
  where
    at_four : {u : Table} → eqb id 4 ≡ true → GoodTable (layout_before (layout id)) u
        → GoodTable (layout_before (layout 4)) u
    at_four {u} e x = subst (λ (j : ℕ). GoodTable (layout_before (layout j)) u) (eqb-true id 4 e) x

    go : (c : Bool) → eqb id 4 ≡ c → cond c (each others t) t ≡ cond c (each others t') t'
        → cond c (each redact t) t ≡ cond c (each redact t') t'
    go true e p = each_same (at_four e g) (at_four e g') p
    go false e p = p
