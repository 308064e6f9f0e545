-- S-31: a satellite's other fields alone decide what it is without covariance, and nothing of covariance is left in it.
-- Assumes nothing.
use mathlib.Core.Path.{◌≡◌, refl, sym, ap, ◌∙◌, subst}
use mathlib.Core.Bool.{Bool, true, false, cond, not, ◌||◌, true≢false}
use mathlib.Core.List.{List, [], ◌∷◌}
use Prim.Native.Nat.{ℕ, zero, suc}
use Rattle.std.specs.Prelude.{All}
use Rattle.std.proofs.lemmas.List.Elements.{All-nil, All-cons, All-head, All-tail, filter_passes}
use lib.Dec.{eqb}
use Rattle.format.specs.Syntax.{Name, Sign, unsigned, Syntax, end, field, when, need, at_most, slots, plan, raw, before, Field, num, flags, bytes}
use Rattle.format.specs.Tables.{u, times, usable, metadata, motion, acceleration, ephemeris, covariance, ephemerides, position3}
use Rattle.format.specs.declared.Fault.TheVariants.{UsableStartCut, UsableStopCut}
use Rattle.format.specs.ByName.{name}
use Rattle.format.specs.Redact.{Clean, is_flag, is_part, redact, others}
use Rattle.format.proofs.Good.{Good, g_end, g_field, g_yes, g_no, g_need, g_most, g_slots, g_plan, g_raw}
use Rattle.format.proofs.RedactFields.{Ordinary, redact_by, others_by}

-- ---- fields without the flag

-- no flag in what a description allows
abbrev NoFlag : Syntax → Type 0
NoFlag end = Unit {0}
NoFlag (field g nm w k) = (is_flag nm ≡ false) × ((v : ℕ) → NoFlag (k v))
NoFlag (when t k l) = NoFlag k × NoFlag l
NoFlag (need a w k) = NoFlag k
NoFlag (at_most a v m k) = NoFlag k
NoFlag (slots nm a m k) = (is_flag nm ≡ false) × NoFlag k
NoFlag (plan nm k) = ⊥
NoFlag (raw nm) = is_flag nm ≡ false

noflag_before : (s : Syntax) → NoFlag s → NoFlag (before s)
noflag_before end p = p
noflag_before (field g nm w k) p = (p.0, λ v. noflag_before (k v) (p.1 v))
noflag_before (when t k l) p = (noflag_before k p.0, noflag_before l p.1)
noflag_before (need a w k) p = noflag_before k p
noflag_before (at_most a v m k) p = noflag_before k p
noflag_before (slots nm a m k) p = (p.0, noflag_before k p.1)
noflag_before (plan nm k) p = p
noflag_before (raw nm) p = p

-- then only the part goes
only_part : (t : Field) (ts : List Field) → is_flag (name t) ≡ false → redact ts ≡ others ts
    → redact (t ∷ ts) ≡ others (t ∷ ts)
only_part t ts f h =
    redact_by t ts (is_part (name t)) false refl f ∙ go (is_part (name t))
    ∙ sym (others_by t ts (is_part (name t)) false refl f)
  where
    go : (p : Bool) → cond p (redact ts) (t ∷ redact ts) ≡ cond (not (p || false)) (t ∷ others ts) (others ts)
    go true = h
    go false = ap (λ (xs : List Field). t ∷ xs) h

-- so that what is left are the others
noflag : {l i : Bool} {s : Syntax} {ts : List Field} → NoFlag s → Good l i s ts → redact ts ≡ others ts
noflag p g_end = unfold redact others in refl
noflag p (g_field g nm w k v {ts} _ _ r) = only_part (num g nm w v) ts p.0 (noflag (p.1 v) r)
noflag p (g_yes r) = noflag p.0 r
noflag p (g_no r) = noflag p.1 r
noflag p (g_need a w _ r) = noflag p r
noflag p (g_most a v m _ r) = noflag p r
noflag p (g_slots nm a m bs {ts} _ _ r) = only_part (flags nm bs) ts p.0 (noflag p.1 r)
noflag p (g_plan nm v fs _ r) = absurd p
noflag p (g_raw nm bs _ _) = only_part (bytes nm bs) [] p (unfold redact others in refl)

-- ---- fields with it

-- the flag, 0, behind n other fields
abbrev insert : ℕ → List Field → List Field
insert zero xs = num unsigned "covariance_flag" 1 0 ∷ xs
insert (suc n) [] = []
insert (suc n) (x ∷ xs) = x ∷ insert n xs

-- the flag stands behind n other fields, and none follows
data FlagAt : ℕ → Syntax → Type 0 where
  here : {k : ℕ → Syntax} → ((v : ℕ) → NoFlag (k v)) → FlagAt 0 (field unsigned "covariance_flag" 1 k)
  behind : (g : Sign) (nm : Name) (w n : ℕ) {k : ℕ → Syntax} → Ordinary nm → ((v : ℕ) → FlagAt n (k v))
      → FlagAt (suc n) (field g nm w k)

flag_before : {n : ℕ} {s : Syntax} → FlagAt n s → FlagAt n (before s)
flag_before (here {k} x) = here (λ v. noflag_before (k v) (x v))
flag_before (behind g nm w n o x) = behind g nm w n o (λ v. flag_before (x v))

-- then what is left are the others and that flag
flag_at : {l i : Bool} {n : ℕ} {s : Syntax} {ts : List Field} → FlagAt n s → Good l i s ts
    → redact ts ≡ insert n (others ts)
unfolding is_part is_flag
flag_at (here x) (g_field _ _ _ _ v {ts} _ _ r) =
    let t : Field = num unsigned "covariance_flag" 1 v in
    redact_by t ts false true refl refl
    ∙ ap (λ (xs : List Field). num unsigned "covariance_flag" 1 0 ∷ xs)
    (noflag (x v) r ∙ sym (others_by t ts false true refl refl))
flag_at (behind g nm w n o x) (g_field _ _ _ _ v {ts} _ _ r) =
    let t : Field = num g nm w v in
    redact_by t ts false false o.0 o.1 ∙ ap (λ (xs : List Field). t ∷ xs) (flag_at (x v) r)
    ∙ ap (insert (suc n)) (sym (others_by t ts false false o.0 o.1))

-- ---- the satellite's

-- a field that is not the flag
free : {A : Type 0} → A → (false ≡ false) × (ℕ → A)
free a = (refl, λ _. a)

noflag_times : (n : ℕ) (f : Syntax → Syntax) (s : Syntax) → ((r : Syntax) → NoFlag r → NoFlag (f r)) → NoFlag s
    → NoFlag (times n f s)
noflag_times zero f s k h = h
noflag_times (suc n) f s k h = k (times n f s) (noflag_times n f s k h)

noflag_motion : (s : Syntax) → NoFlag s → NoFlag (motion s)
unfolding is_flag
noflag_motion s h = free (free (free (free (free (free (free (free (free (free h)))))))))

noflag_ephemeris : (accel : ℕ) (s : Syntax) → NoFlag s → NoFlag (ephemeris accel s)
unfolding is_flag
noflag_ephemeris accel s h = (noflag_motion (acceleration s) (free (free (free h))), noflag_motion s h)

noflag_covariance : (flag : ℕ) → NoFlag (covariance flag)
unfolding is_flag
noflag_covariance flag =
    (free (free (free (free (noflag_times 21 (u "covariance_elements" 32) end (λ r h. free h) tt)))), tt)

noflag_ephemerides : (accel flag : ℕ) → NoFlag (ephemerides accel flag)
unfolding is_flag
noflag_ephemerides accel flag =
    (refl, λ n. noflag_times n (ephemeris accel) (covariance flag) (noflag_ephemeris accel) (noflag_covariance flag))

noflag_metadata : (start stop : ℕ) (s : Syntax) → NoFlag s → NoFlag (metadata start stop s)
unfolding is_flag
noflag_metadata start stop s h =
    let r : Syntax = usable UsableStopCut "usable_stop_time" stop s in
    let last : NoFlag r = (free (free (free (free h))), h) in
    let both : NoFlag (usable UsableStartCut "usable_start_time" start r) =
    (free (free (free (free last))), last) in
    free (free (free (free (free (free (free (free (free (free (free (free both)))))))))))

-- behind the flag there is none
noflag_rest : (meta start stop accel cov : ℕ)
    → NoFlag (when (eqb meta 1) (metadata start stop (ephemerides accel cov)) (ephemerides accel cov))
noflag_rest meta start stop accel cov =
    (noflag_metadata start stop (ephemerides accel cov) (noflag_ephemerides accel cov), noflag_ephemerides accel cov)

flag_position3 : FlagAt 6 position3
unfolding position3 is_part is_flag
flag_position3 =
    behind unsigned "satellite_id" 24 5 (refl, refl) (λ _.
    behind unsigned "reserved_zero_future_use" 3 4 (refl, refl) (λ _.
    behind unsigned "metadata_flag" 1 3 (refl, refl) (λ meta.
    behind unsigned "usable_start_time_flag" 1 2 (refl, refl) (λ start.
    behind unsigned "usable_stop_time_flag" 1 1 (refl, refl) (λ stop.
    behind unsigned "ephemeris_accel_flag" 1 0 (refl, refl) (λ accel.
    here (noflag_rest meta start stop accel)))))))

-- a satellite without covariance: its other fields, and behind the first six the flag, which is 0
with_flag : {l i : Bool} {ts : List Field} → Good l i (before position3) ts → redact ts ≡ insert 6 (others ts)
with_flag r = flag_at (flag_before flag_position3) r

-- two satellites whose other fields are the same have the same fields without covariance
pub same_redact : {l m i j : Bool} {ts us : List Field} → Good l i (before position3) ts
    → Good m j (before position3) us → others ts ≡ others us → redact ts ≡ redact us
same_redact r q e = with_flag r ∙ ap (insert 6) e ∙ sym (with_flag q)

-- ---- nothing of covariance is left

-- another field is neither
abbrev Other : Field → Type 0
Other t = not (is_part (name t) || is_flag (name t)) ≡ true

clean_other : (t : Field) → Other t → Clean t
clean_other t e = go (is_part (name t)) (is_flag (name t)) refl refl e
  where
    go : (p q : Bool) → is_part (name t) ≡ p → is_flag (name t) ≡ q → not (p || q) ≡ true → Clean t
    go true q x y z = absurd (true≢false (sym z))
    go false true x y z = absurd (true≢false (sym z))
    go false false x y z = record { no_part = x; zero_flag = λ f. absurd (true≢false (sym f ∙ y)) }

clean_all : (ts : List Field) → All Other ts → All Clean ts
clean_all [] h = All-nil Clean
clean_all (t ∷ ts) h =
    All-cons Clean t ts (clean_other t (All-head Other t ts h)) (clean_all ts (All-tail Other t ts h))

clean_flag : Clean (num unsigned "covariance_flag" 1 0)
unfolding is_part
clean_flag = record { no_part = refl; zero_flag = λ _. refl }

-- the others are so, and stay so with the flag among them
clean_insert : (n : ℕ) (ts : List Field) → All Clean ts → All Clean (insert n ts)
clean_insert zero ts h = All-cons Clean (num unsigned "covariance_flag" 1 0) ts clean_flag h
clean_insert (suc n) [] h = All-nil Clean
clean_insert (suc n) (t ∷ ts) h =
    All-cons Clean t (insert n ts) (All-head Clean t ts h) (clean_insert n ts (All-tail Clean t ts h))

clean_others : (ts : List Field) → All Clean (others ts)
unfolding others
clean_others ts = clean_all (others ts) (filter_passes (λ (t : Field). not (is_part (name t) || is_flag (name t))) ts)

-- and so is each field of a satellite without covariance
pub redact_clean : {l i : Bool} {ts : List Field} → Good l i (before position3) ts → All Clean (redact ts)
redact_clean {ts = ts} r =
    subst (λ (us : List Field). All Clean us) (sym (with_flag r)) (clean_insert 6 (others ts) (clean_others ts))
