-- The parts of a satellite's description: how many bytes the fields of each take in a ledger, by the flags and the
-- count, and whether a copy without covariance keeps them.
-- Assumes nothing.
use Prim.Native.Nat.{ℕ, zero, suc, ◌+◌, ◌*◌}
use Prim.Native.String as text
use mathlib.Core.Path.{◌≡◌, refl, sym, ap, ap₂, ◌∙◌, subst}
use mathlib.Core.Bool.{Bool, true, false, cond}
use mathlib.Core.List.{List, [], ◌∷◌, ◌++◌, append_assoc}
use native.Mathlib.Nat.{zero-mul, suc-mul}
use native.Mathlib.Omega.{arith}
use lib.Dec.{eqb}
use lib.ListN.{length, length-append}
use Rattle.format.specs.declared.Edition.{Edition}
use Rattle.format.specs.declared.Fault.{Fault}
use Rattle.format.specs.declared.Fault.TheVariants.{MetadataCut, UsableStartCut, UsableStopCut, EphemerisCut, CovarianceCut}
use Rattle.format.specs.Digits.{digits}
use Rattle.format.specs.Syntax.{Name, Sign, unsigned, Syntax, end, field, when, need, before, Field, num}
use Rattle.format.specs.Ledger.{size, widened, ledger}
use Rattle.format.specs.Tables.{u, times, stamp, usable, motion, acceleration, ephemeris, covariance, ephemerides, metadata}
use Rattle.format.specs.Redact.{is_flag, is_part, redact}
use Rattle.format.proofs.DigitLaws.{length_digits}
use Rattle.format.proofs.Good
use Rattle.format.proofs.RedactFields.{Ordinary, redact_by}
use Rattle.runs.specs.declared.Flags.{Flags}
use Rattle.ledger_redactor.specs.Places.{usable_size, metadata_size, entry_size, covariance_size}

pub cons_ledger : (ed : Edition) (g : Sign) (nm : Name) (w v : ℕ) (ts : List Field)
    → ledger ed (num g nm w v ∷ ts) ≡ digits 256 (size g w) (widened g w v) ++ ledger ed ts
unfolding ledger
cons_ledger ed g nm w v ts = refl

-- ---- fields that the copy keeps

-- s is c bytes of fields that are neither flag nor part, and then r
pub data Over : ℕ → Syntax → Syntax → Type 0 where
  at_once : {s : Syntax} → Over 0 s s
  one_field : {c : ℕ} (g : Sign) (nm : Name) (w : ℕ) {k : ℕ → Syntax} {r : Syntax} → Ordinary nm
      → ((v : ℕ) → Over c (k v) r) → Over (size g w + c) (field g nm w k) r
  either : {c d : ℕ} {t : Bool} {k m r : Syntax} → Over c k r → Over d m r → Over (cond t c d) (when t k m) r
  needing : {c : ℕ} (a : Fault) (w : ℕ) {k r : Syntax} → Over c k r → Over c (need a w k) r

pub over_before : {c : ℕ} {s r : Syntax} → Over c s r → Over c (before s) (before r)
over_before at_once = at_once
over_before (one_field g nm w o x) = one_field g nm w o (λ v. over_before (x v))
over_before (either x y) = either (over_before x) (over_before y)
over_before (needing a w x) = needing a w (over_before x)

-- such fields us of a good list, and those of r
pub record Front (ed : Edition) (c : ℕ) (l i : Bool) (r : Syntax) (ts : List Field) : Type 0 where
  pub us : List Field
  pub vs : List Field
  pub good : Good.Good l i r vs
  pub is : ledger ed ts ≡ ledger ed us ++ ledger ed vs
  pub kept : ledger ed (redact ts) ≡ ledger ed us ++ ledger ed (redact vs)
  pub size : length (ledger ed us) ≡ c

pub front : {l i : Bool} {c : ℕ} {s r : Syntax} {ts : List Field} (ed : Edition) → Over c s r → Good.Good l i s ts
    → Front ed c l i r ts
unfolding ledger
front {ts = ts} ed at_once q = record { us = []; vs = ts; good = q; is = refl; kept = refl; size = refl }
front ed (one_field g nm w o x) (Good.g_field _ _ _ _ v {ts} _ _ q) =
    let y = front ed (x v) q in
    let d : List ℕ = digits 256 (size g w) (widened g w v) in
    record {
      us = num g nm w v ∷ y.us;
      vs = y.vs;
      good = y.good;
      is = ap (λ (b : List ℕ). d ++ b) y.is ∙ sym (append_assoc d (ledger ed y.us) (ledger ed y.vs));
      kept = ap (ledger ed) (redact_by (num g nm w v) ts false false o.0 o.1) ∙ ap (λ (b : List ℕ). d ++ b) y.kept
          ∙ sym (append_assoc d (ledger ed y.us) (ledger ed (redact y.vs)));
      size = length-append d (ledger ed y.us) ∙ ap₂ ◌+◌ (length_digits 256 (size g w) (widened g w v)) y.size;
    }
front ed (either x y) (Good.g_yes q) = front ed x q
front ed (either x y) (Good.g_no q) = front ed y q
front ed (needing a w x) (Good.g_need _ _ _ q) = front ed x q

-- ---- fields that it does not

-- all of s is c bytes of the part
pub data Part : ℕ → Syntax → Type 0 where
  part_end : Part 0 end
  part_field : {c : ℕ} (g : Sign) (nm : Name) (w : ℕ) {k : ℕ → Syntax} → is_part nm ≡ true → ((v : ℕ) → Part c (k v))
      → Part (size g w + c) (field g nm w k)
  part_when : {c d : ℕ} {t : Bool} {k m : Syntax} → Part c k → Part d m → Part (cond t c d) (when t k m)
  part_need : {c : ℕ} (a : Fault) (w : ℕ) {k : Syntax} → Part c k → Part c (need a w k)

pub part_before : {c : ℕ} {s : Syntax} → Part c s → Part c (before s)
part_before part_end = part_end
part_before (part_field g nm w e x) = part_field g nm w e (λ v. part_before (x v))
part_before (part_when x y) = part_when (part_before x) (part_before y)
part_before (part_need a w x) = part_need a w (part_before x)

pub part_gone : {l i : Bool} {c : ℕ} {s : Syntax} {ts : List Field} (ed : Edition) → Part c s → Good.Good l i s ts
    → (redact ts ≡ []) × (length (ledger ed ts) ≡ c)
unfolding ledger redact
part_gone ed part_end Good.g_end = (refl, refl)
part_gone ed (part_field g nm w e x) (Good.g_field _ _ _ _ v {ts} _ _ q) =
    let o = part_gone ed (x v) q in
    let d : List ℕ = digits 256 (size g w) (widened g w v) in (
      redact_by (num g nm w v) ts true (is_flag nm) e refl ∙ o.0,
      length-append d (ledger ed ts) ∙ ap₂ ◌+◌ (length_digits 256 (size g w) (widened g w v)) o.1,
    )
part_gone ed (part_when x y) (Good.g_yes q) = part_gone ed x q
part_gone ed (part_when x y) (Good.g_no q) = part_gone ed y q
part_gone ed (part_need a w x) (Good.g_need _ _ _ q) = part_gone ed x q

-- ---- the satellite's

resize : {c d : ℕ} {s r : Syntax} → c ≡ d → Over c s r → Over d s r
resize {s = s} {r} e x = subst (λ (c : ℕ). Over c s r) e x

pub over_u : {c : ℕ} (nm : Name) (w : ℕ) {s r : Syntax} → Ordinary nm → Over c s r → Over (size unsigned w + c) (u nm w s) r
over_u nm w o x = one_field unsigned nm w o (λ _. x)

pub over_stamp : {c : ℕ} (t : Name) {s r : Syntax} → Ordinary (text.◌++◌ t "_year")
    → Ordinary (text.◌++◌ t "_reserved_zero_future_use")
    → Ordinary (text.◌++◌ t "_day") → Ordinary (text.◌++◌ t "_day_fraction") → Over c s r → Over (8 + c) (stamp t s) r
over_stamp {c} t y z d f x =
    let e : 1 + (1 + (2 + (4 + c))) ≡ 8 + c = omega arith in
    resize e (over_u (text.◌++◌ t "_year") 8 y (over_u (text.◌++◌ t "_reserved_zero_future_use") 7 z
    (over_u (text.◌++◌ t "_day") 9 d (over_u (text.◌++◌ t "_day_fraction") 32 f x))))

over_motion : {c : ℕ} {s r : Syntax} → Over c s r → Over (32 + c) (motion s) r
unfolding is_part is_flag
over_motion {c} x =
    let e : 8 + (4 + (4 + (4 + (4 + (4 + (4 + c)))))) ≡ 32 + c = omega arith in
    resize e (over_stamp "epoch" (refl, refl) (refl, refl) (refl, refl) (refl, refl)
    (over_u "ephemeris_x" 32 (refl, refl) (over_u "ephemeris_y" 32 (refl, refl) (over_u "ephemeris_z" 32 (refl, refl)
    (over_u "ephemeris_x_dot" 32 (refl, refl) (over_u "ephemeris_y_dot" 32 (refl, refl)
    (over_u "ephemeris_z_dot" 32 (refl, refl) x)))))))

over_acceleration : {c : ℕ} {s r : Syntax} → Over c s r → Over (12 + c) (acceleration s) r
unfolding is_part is_flag
over_acceleration {c} x =
    let e : 4 + (4 + (4 + c)) ≡ 12 + c = omega arith in
    resize e (over_u "ephemeris_x_ddot" 32 (refl, refl) (over_u "ephemeris_y_ddot" 32 (refl, refl)
    (over_u "ephemeris_z_ddot" 32 (refl, refl) x)))

-- an entry's size does not depend on what follows it
entry_plus : (t : Bool) (c : ℕ) → cond t (44 + c) (32 + c) ≡ entry_size t + c
entry_plus true c = refl
entry_plus false c = refl

over_ephemeris : {c : ℕ} (accel : ℕ) {s r : Syntax} → Over c s r
    → Over (entry_size (eqb accel 1) + c) (ephemeris accel s) r
over_ephemeris {c} accel x =
    let e : 32 + (12 + c) ≡ 44 + c = omega arith in
    let wide = resize e (needing EphemerisCut 344 (over_motion (over_acceleration x))) in
    resize (entry_plus (eqb accel 1) c) (either wide (needing EphemerisCut 248 (over_motion x)))

pub over_entries : (n accel : ℕ) {s : Syntax} → Over (n * entry_size (eqb accel 1)) (times n (ephemeris accel) s) s
over_entries zero accel =
    let w : ℕ = entry_size (eqb accel 1) in
    resize (sym (zero-mul w)) at_once
over_entries (suc n) accel =
    let w : ℕ = entry_size (eqb accel 1) in
    let e : w + n * w ≡ suc n * w = rw (suc-mul n w) (omega arith) in
    resize e (over_ephemeris accel (over_entries n accel))

usable_plus : (t : Bool) (c : ℕ) → cond t (8 + c) c ≡ usable_size t + c
usable_plus true c = refl
usable_plus false c = omega arith

over_usable : {c : ℕ} (fault : Fault) (nm : Name) (flag : ℕ) {s r : Syntax} → Ordinary (text.◌++◌ nm "_year")
    → Ordinary (text.◌++◌ nm "_reserved_zero_future_use")
    → Ordinary (text.◌++◌ nm "_day") → Ordinary (text.◌++◌ nm "_day_fraction") → Over c s r
    → Over (usable_size (eqb flag 1) + c) (usable fault nm flag s) r
over_usable {c} fault nm flag y z d f x =
    resize (usable_plus (eqb flag 1) c) (either (needing fault 56 (over_stamp nm y z d f x)) x)

over_metadata : (start stop : ℕ) {s : Syntax} → Over (20 + usable_size (eqb start 1) + usable_size (eqb stop 1))
    (metadata start stop s) s
unfolding is_part is_flag
over_metadata start stop =
    let a : ℕ = usable_size (eqb start 1) in
    let b : ℕ = usable_size (eqb stop 1) in
    let e : 8 + (8 + (1 + (1 + (1 + (1 + (a + (b + 0))))))) ≡ 20 + a + b = omega arith in
    resize e (needing MetadataCut 120 (over_stamp "total_start_time" (refl, refl) (refl, refl) (refl, refl) (refl, refl)
    (over_stamp "total_stop_time" (refl, refl) (refl, refl) (refl, refl) (refl, refl)
    (over_u "metadata.reserved_zero_future_use" 1 (refl, refl) (over_u "interpolation_flag" 1 (refl, refl)
    (over_u "interpolation_type" 3 (refl, refl) (over_u "interpolation_degree" 3 (refl, refl)
    (over_usable UsableStartCut "usable_start_time" start (refl, refl) (refl, refl) (refl, refl) (refl, refl)
    (over_usable UsableStopCut "usable_stop_time" stop (refl, refl) (refl, refl) (refl, refl) (refl, refl)
    at_once)))))))))

-- what follows the flags, up to the count
abbrev pub flags_of : (meta start stop accel cov : ℕ) → Flags
flags_of meta start stop accel cov =
    record {
      metadata = eqb meta 1;
      start = eqb start 1;
      stop = eqb stop 1;
      acceleration = eqb accel 1;
      covariance = eqb cov 1;
    }

pub over_rest : (meta start stop accel cov : ℕ)
    → Over (metadata_size (flags_of meta start stop accel cov))
    (when (eqb meta 1) (metadata start stop (ephemerides accel cov)) (ephemerides accel cov)) (ephemerides accel cov)
over_rest meta start stop accel cov = either (over_metadata start stop) at_once

part_elements : (n : ℕ) → Part (n * 4) (times n (u "covariance_elements" 32) end)
unfolding is_part
part_elements zero = part_end
part_elements (suc n) =
    let e : 4 + n * 4 ≡ suc n * 4 = omega arith in
    subst (λ (c : ℕ). Part c (times (suc n) (u "covariance_elements" 32) end)) e
    (part_field unsigned "covariance_elements" 32 refl (λ _. part_elements n))

pub part_covariance : (cov : ℕ) → Part (covariance_size (eqb cov 1)) (covariance cov)
unfolding is_part
part_covariance cov =
    part_when (part_need CovarianceCut 728 (part_field unsigned "covariance_epoch_year" 8 refl
    (λ _. part_field unsigned "covariance_epoch_reserved_zero_future_use" 7 refl
    (λ _. part_field unsigned "covariance_epoch_day" 9 refl
    (λ _. part_field unsigned "covariance_epoch_day_fraction" 32 refl (λ _. part_elements 21)))))) part_end
