-- Only plans have a length and filler: a table without plans comes back through either edition as it is, and one of
-- plans does exactly if its entries do.
-- Assumes nothing.
use mathlib.Core.Path.{◌≡◌, refl, ap, ap₂}
use mathlib.Core.Bool.{Bool}
use mathlib.Core.List.{List, [], ◌∷◌}
use Prim.Native.Nat.{ℕ}
use Rattle.format.specs.Syntax.{Syntax, Field, num, flags}
use Rattle.format.specs.declared.Edition.{Edition}
use Rattle.format.specs.declared.Edition.TheVariants.{Second}
use Rattle.format.specs.Whole.{Layout, sole, many, opaque, layout_before, Table, one, list, as_it_is, entries_of}
use Rattle.format.proofs.Good.{Good, g_end, g_field, g_yes, g_no, g_need, g_most, g_slots, g_plan, g_raw, NoPlan, planless_before}
use Rattle.format.proofs.Forms.{form, form_2, forms}
use Rattle.format.proofs.EntryLaws.{AllGood}
use Rattle.format.proofs.TableLaws.{GoodTable, good_one, good_list, good_raw, form_of}
use Rattle.format.proofs.EditionLaws.{Planless}

-- ---- fields and entries that are no plan's

form_planless : {l i : Bool} {s : Syntax} {ts : List Field} (ed : Edition) → NoPlan s → Good l i s ts
    → form ed ts ≡ ts
unfolding form
form_planless ed p g_end = refl
form_planless ed p (g_field g nm w k v _ _ r) = ap (λ (x : List Field). num g nm w v ∷ x) (form_planless ed (p v) r)
form_planless ed p (g_yes r) = form_planless ed p.0 r
form_planless ed p (g_no r) = form_planless ed p.1 r
form_planless ed p (g_need a w _ r) = form_planless ed p r
form_planless ed p (g_most a v m _ r) = form_planless ed p r
form_planless ed p (g_slots nm a m bs _ _ r) = ap (λ (x : List Field). flags nm bs ∷ x) (form_planless ed p r)
form_planless ed p (g_plan nm v fs _ r) = absurd p
form_planless ed p (g_raw nm bs _ _) = refl

forms_planless : (s : Syntax) (ed : Edition) (es : List (List Field)) → NoPlan s → AllGood s es → forms ed es ≡ es
unfolding forms
forms_planless s ed [] p g = refl
forms_planless s ed (ts ∷ es) p g =
    ap₂ (λ (x : List Field) (y : List (List Field)). x ∷ y) (form_planless ed p g.0) (forms_planless s ed es p g.1)

-- ---- whole tables

-- a layout without plans had none before it had its tests
pub planless_before_layout : (l : Layout) → Planless l → Planless (layout_before l)
planless_before_layout (sole s) p = planless_before s p
planless_before_layout (many h m s) p = (planless_before h p.0, planless_before s p.1)
planless_before_layout opaque p = tt

-- a table without plans comes back as it is
pub planless_table : {l : Layout} {t : Table} (ed : Edition) → Planless l → GoodTable l t → form_of ed t ≡ t
unfolding form_of
planless_table ed p (good_one g) = ap one (form_planless ed p g)
planless_table ed p (good_list {s = s} {es = es} g gs) =
    ap₂ list (form_planless ed p.0 g) (forms_planless s ed es p.1 gs)
planless_table ed p (good_raw h) = refl

-- a list comes back as it is if its entries do, where the head has no plan
pub entries_table : {h s : Syntax} {m : ℕ} {t : Table} (ed : Edition) → NoPlan h → GoodTable (many h m s) t
    → forms ed (entries_of t) ≡ entries_of t → form_of ed t ≡ t
unfolding form_of entries_of
entries_table ed p (good_list g gs) e = ap₂ list (form_planless ed p g) e

-- and its entries do if it does
pub table_entries : (ed : Edition) (t : Table) → form_of ed t ≡ t → forms ed (entries_of t) ≡ entries_of t
unfolding form_of entries_of forms
table_entries ed (one ts) e = refl
table_entries ed (list hs es) e = ap entries_of e
table_entries ed (as_it_is b) e = refl

-- ---- the second edition keeps all

forms_2 : (es : List (List Field)) → forms Second es ≡ es
unfolding forms
forms_2 [] = refl
forms_2 (ts ∷ es) = ap₂ (λ (x : List Field) (y : List (List Field)). x ∷ y) (form_2 ts) (forms_2 es)

pub form_of_2 : (t : Table) → form_of Second t ≡ t
unfolding form_of
form_of_2 (one ts) = ap one (form_2 ts)
form_of_2 (list hs es) = ap₂ list (form_2 hs) (forms_2 es)
form_of_2 (as_it_is b) = refl
