-- What comes back of fields through an edition: in the first a plan's length is exact and its filler empty. So the
-- plain body is the kept body of what comes back, and all that is to be shown of bodies is shown of kept ones.
-- Assumes nothing.
use mathlib.Core.Path.{◌≡◌, refl, sym, ap, ap₂, ◌∙◌}
use mathlib.Core.Bool.{Bool, true}
use mathlib.Core.List.{List, [], ◌∷◌, ◌++◌, append_assoc, append-nil}
use Prim.Native.Nat.{ℕ, suc, ◌+◌, ◌/◌, ◌%◌}
use native.Mathlib.Omega.{arith}
use lib.Dec.{T}
use lib.ListN.{length}
use Rattle.format.specs.Digits.{digits}
use Rattle.format.specs.Syntax.{Name, Syntax, Field, num, flags, bytes, len, filler, added}
use Rattle.format.specs.declared.Edition.{Edition}
use Rattle.format.specs.declared.Edition.TheVariants.{First, Second}
use Rattle.format.specs.Body.{planned, padded, length_of_plan, laid, plain, kept}
use Rattle.format.specs.Ledger.{ledger}
use Rattle.format.specs.Whole.{laids, ledgers}
use Rattle.format.proofs.Good

unfoldable pub form : Edition → List Field → List Field
form ed [] = []
form ed (num g nm w v ∷ ts) = num g nm w v ∷ form ed ts
form ed (flags nm bs ∷ ts) = flags nm bs ∷ form ed ts
form ed (bytes nm bs ∷ ts) = bytes nm bs ∷ form ed ts
form ed (len nm v ∷ ts) = len nm (length_of_plan ed v (plain ts)) ∷ form ed ts
form ed (filler fs ∷ ts) = filler (added ed fs) ∷ form ed ts

-- the second edition keeps all
pub form_2 : (ts : List Field) → form Second ts ≡ ts
unfolding form
form_2 [] = refl
form_2 (num g nm w v ∷ ts) = ap (λ (us : List Field). num g nm w v ∷ us) (form_2 ts)
form_2 (flags nm bs ∷ ts) = ap (λ (us : List Field). flags nm bs ∷ us) (form_2 ts)
form_2 (bytes nm bs ∷ ts) = ap (λ (us : List Field). bytes nm bs ∷ us) (form_2 ts)
form_2 (len nm v ∷ ts) = ap (λ (us : List Field). len nm v ∷ us) (form_2 ts)
form_2 (filler fs ∷ ts) = ap (λ (us : List Field). filler fs ∷ us) (form_2 ts)

length_of_plan_lem : (ed : Edition) (v : ℕ) (ts : List Field) → length_of_plan ed v (plain ts) ≡ length_of_plan ed v (laid ed ts)
length_of_plan_lem First v ts = refl
length_of_plan_lem Second v ts = refl

-- an edition's body is the kept body of what comes back
pub kept_form : (ed : Edition) (ts : List Field) → kept (form ed ts) ≡ laid ed ts
unfolding form laid
kept_form ed [] = refl
kept_form ed (num g nm w v ∷ ts) = ap (λ (x : List ℕ). digits 2 w v ++ x) (kept_form ed ts)
kept_form ed (flags nm bs ∷ ts) = ap (λ (x : List ℕ). padded bs ++ x) (kept_form ed ts)
kept_form ed (bytes nm bs ∷ ts) = ap (λ (x : List ℕ). bs ++ x) (kept_form ed ts)
kept_form ed (len nm v ∷ ts) = ap₂ (λ (k : ℕ) (x : List ℕ). digits 2 12 k ++ x) (length_of_plan_lem ed v ts) (kept_form ed ts)
kept_form ed (filler fs ∷ ts) = ap (λ (x : List ℕ). added ed fs ++ x) (kept_form ed ts)

-- and has the same ledger
ledger_plain : (ts : List Field) → ledger First (form First ts) ≡ ledger First ts
unfolding form ledger
ledger_plain [] = refl
ledger_plain (num g nm w v ∷ ts) = rw (ledger_plain ts)
ledger_plain (flags nm bs ∷ ts) = rw (ledger_plain ts)
ledger_plain (bytes nm bs ∷ ts) = rw (ledger_plain ts)
ledger_plain (len nm v ∷ ts) = ledger_plain ts
ledger_plain (filler fs ∷ ts) = ledger_plain ts

pub ledger_form : (ed : Edition) (ts : List Field) → ledger ed (form ed ts) ≡ ledger ed ts
ledger_form First ts = ledger_plain ts
ledger_form Second ts = ap (ledger Second) (form_2 ts)

-- and the same body
plain_form : (ts : List Field) → plain (form First ts) ≡ plain ts
unfolding form laid
plain_form [] = refl
plain_form (num g nm w v ∷ ts) = rw (plain_form ts)
plain_form (flags nm bs ∷ ts) = rw (plain_form ts)
plain_form (bytes nm bs ∷ ts) = rw (plain_form ts)
plain_form (len nm v ∷ ts) = rw (plain_form ts)
plain_form (filler fs ∷ ts) = plain_form ts

pub laid_form : (ed : Edition) (ts : List Field) → laid ed (form ed ts) ≡ laid ed ts
laid_form First ts = plain_form ts
laid_form Second ts = ap kept (form_2 ts)

-- ---- what is within a plan has no length of its own to compute

pub flat_plain : {l i : Bool} {s : Syntax} {ts : List Field} → T i → Good.Good l i s ts → (us : List Field) → plain (ts ++ us) ≡ kept ts ++ plain us
unfolding laid
flat_plain t Good.g_end us = refl
flat_plain t (Good.g_field g nm w k v {ts} _ _ r) us = rw (flat_plain t r us, ← append_assoc)
flat_plain t (Good.g_yes r) us = flat_plain t r us
flat_plain t (Good.g_no r) us = flat_plain t r us
flat_plain t (Good.g_need a w _ r) us = flat_plain t r us
flat_plain t (Good.g_most a v m _ r) us = flat_plain t r us
flat_plain t (Good.g_slots nm a m bs {ts} _ _ r) us = rw (flat_plain t r us, ← append_assoc)
flat_plain t (Good.g_plan nm v fs _ r) us = absurd t
flat_plain t (Good.g_raw nm bs _ _) us = rw (append-nil bs)

pub flat_form : {l i : Bool} {s : Syntax} {ts : List Field} (ed : Edition) → T i → Good.Good l i s ts → (us : List Field) → form ed (ts ++ us) ≡ ts ++ form ed us
unfolding form
flat_form ed t Good.g_end us = refl
flat_form ed t (Good.g_field g nm w k v _ _ r) us = ap (λ (x : List Field). num g nm w v ∷ x) (flat_form ed t r us)
flat_form ed t (Good.g_yes r) us = flat_form ed t r us
flat_form ed t (Good.g_no r) us = flat_form ed t r us
flat_form ed t (Good.g_need a w _ r) us = flat_form ed t r us
flat_form ed t (Good.g_most a v m _ r) us = flat_form ed t r us
flat_form ed t (Good.g_slots nm a m bs _ _ r) us = ap (λ (x : List Field). flags nm bs ∷ x) (flat_form ed t r us)
flat_form ed t (Good.g_plan nm v fs _ r) us = absurd t
flat_form ed t (Good.g_raw nm bs _ _) us = refl

pub flat_kept : {l i : Bool} {s : Syntax} {ts : List Field} → T i → Good.Good l i s ts → plain ts ≡ kept ts
unfolding laid
flat_kept {ts = ts} t r = ap plain (sym_nil ts) ∙ flat_plain t r [] ∙ append-nil (kept ts)
  where
    sym_nil : (us : List Field) → us ≡ us ++ []
    sym_nil us = sym (append-nil us)

pub form_flat : {l : Bool} {s : Syntax} {ts : List Field} (ed : Edition) → Good.Good l true s ts → form ed ts ≡ ts
unfolding form
form_flat {ts = ts} ed r = ap (form ed) (sym (append-nil ts)) ∙ flat_form ed tt r [] ∙ append-nil ts

-- a plan's fields come back so
pub form_planned : {l : Bool} {s : Syntax} {ts : List Field} (ed : Edition) (nm : Name) (v : ℕ) (fs : List ℕ) → Good.Good l true s ts
    → form ed (planned nm v ts fs) ≡ planned nm (length_of_plan ed v (kept ts)) ts (added ed fs)
unfolding form laid
form_planned {ts = ts} Second nm v fs r = ap (λ (x : List Field). len nm v ∷ x) (flat_form Second tt r (filler fs ∷ []))
form_planned {ts = ts} First nm v fs r =
    ap₂ (λ (k : ℕ) (x : List Field). len nm k ∷ x)
    (ap (λ (x : List ℕ). length x / 8) (flat_plain tt r (filler fs ∷ []) ∙ append-nil (kept ts)))
    (flat_form First tt r (filler fs ∷ []))

-- an exact length and no filler are as any plan leaves them
pub exact_ending : {l : Bool} (ts : List Field) → length (kept ts) % 8 ≡ 0 → Good.Ending l (length (kept ts) / 8) [] ts
exact_ending ts a = record {
  fields = a;
  whole = refl;
  below = tt;
  wide = λ _. omega arith;
  leaves = Good.within (omega arith) (Good.raw_none ts);
}

-- what comes back is good
pub good_form : {l i : Bool} {s : Syntax} {ts : List Field} (ed : Edition) (b c : ℕ) → Good.Good l i s ts → Good.Fine i b c s → Good.Good l i s (form ed ts)
unfolding form
good_form ed b c Good.g_end f = Good.g_end
good_form ed b c (Good.g_field g nm w k v h e r) f = Good.g_field g nm w k v h e (good_form ed (b + w) _ r (f.1 v))
good_form ed b c (Good.g_yes r) f = Good.g_yes (good_form ed b c r f.0)
good_form ed b c (Good.g_no r) f = Good.g_no (good_form ed b c r f.1)
good_form ed b c (Good.g_need a w h r) f = let r' = good_form ed b c r f.1 in Good.g_need a w (Good.least w r' f.0) r'
good_form ed b c (Good.g_most a v m h r) f = Good.g_most a v m h (good_form ed b c r f.2)
good_form ed b c (Good.g_slots nm a m bs e h r) f = Good.g_slots nm a m bs e h (good_form ed b c r f.1)
good_form First b c (Good.g_plan nm v fs {k} {ts} e r) f =
    rw (form_planned First nm v fs r) (Good.g_plan nm (length (kept ts) / 8) [] (exact_ending ts e.fields) r)
good_form Second b c (Good.g_plan nm v fs {k} {ts} e r) f = rw (form_2 (planned nm v ts fs)) (Good.g_plan nm v fs e r)
good_form ed b c (Good.g_raw nm bs h a) f = Good.g_raw nm bs h a

-- ---- entries

unfoldable pub forms : Edition → List (List Field) → List (List Field)
forms ed [] = []
forms ed (ts ∷ es) = form ed ts ∷ forms ed es

pub length_forms : (ed : Edition) (es : List (List Field)) → length (forms ed es) ≡ length es
unfolding forms
length_forms ed [] = refl
length_forms ed (ts ∷ es) = ap suc (length_forms ed es)

pub laids_forms : (ed : Edition) (es : List (List Field)) → laids Second (forms ed es) ≡ laids ed es
unfolding forms laids
laids_forms ed [] = refl
laids_forms ed (ts ∷ es) = ap₂ (λ (x y : List ℕ). x ++ y) (kept_form ed ts) (laids_forms ed es)

pub ledgers_forms : (ed : Edition) (es : List (List Field)) → ledgers ed (forms ed es) ≡ ledgers ed es
unfolding forms ledgers
ledgers_forms ed [] = refl
ledgers_forms ed (ts ∷ es) = ap₂ (λ (x y : List ℕ). x ++ y) (ledger_form ed ts) (ledgers_forms ed es)

pub laids_same : (ed : Edition) (es : List (List Field)) → laids ed (forms ed es) ≡ laids ed es
unfolding forms laids
laids_same ed [] = refl
laids_same ed (ts ∷ es) = ap₂ (λ (x y : List ℕ). x ++ y) (laid_form ed ts) (laids_same ed es)
