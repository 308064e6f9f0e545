-- S-31: a satellite's fields without covariance are ones that its description allows, now and before S-23.
-- Assumes nothing.
use mathlib.Core.Path.{◌≡◌, refl}
use mathlib.Core.Bool.{Bool, true, false}
use mathlib.Core.List.{List}
use Prim.Native.Nat.{ℕ, zero, suc}
use Prim.Native.String as text
use native.Mathlib.Omega.{arith}
use Rattle.format.specs.declared.Fault.{Fault}
use Rattle.format.specs.declared.Fault.TheVariants.{MetadataCut, UsableStartCut, UsableStopCut, EphemerisCut, CovarianceCut}
use Rattle.format.specs.Syntax.{Name, Sign, unsigned, Syntax, end, field, when, need, before, Field}
use Rattle.format.specs.Tables.{u, times, stamp, usable, metadata, motion, acceleration, ephemeris, covariance, ephemerides, position3}
use Rattle.format.specs.Redact.{is_flag, is_part, redact}
use Rattle.format.proofs.Good.{Good, g_end, g_field, g_yes, g_no, g_need, Least, least, least_zero, least_before}
use Rattle.format.proofs.RedactFields.{Ordinary}

-- ---- a description, and one of the same without covariance

-- the flag is 0 there, and the part gone; what `need` asks for follows there too, or is no longer asked for
data Shed : Syntax → Syntax → Type 0 where
  s_end : Shed end end
  s_field : (g : Sign) (nm : Name) (w : ℕ) {k k' : ℕ → Syntax} → Ordinary nm → ((v : ℕ) → Shed (k v) (k' v))
      → Shed (field g nm w k) (field g nm w k')
  s_flag : (g : Sign) (nm : Name) (w : ℕ) {k k' : ℕ → Syntax} → is_part nm ≡ false → is_flag nm ≡ true
      → ((v : ℕ) → Shed (k v) (k' 0)) → Shed (field g nm w k) (field g nm w k')
  s_part : (g : Sign) (nm : Name) (w : ℕ) {k : ℕ → Syntax} {s : Syntax} → is_part nm ≡ true
      → ((v : ℕ) → Shed (k v) s) → Shed (field g nm w k) s
  s_when : {t : Bool} {k k' m m' : Syntax} → Shed k k' → Shed m m' → Shed (when t k m) (when t k' m')
  s_off : {t : Bool} {k k' m m' : Syntax} → Shed k m' → Shed m m' → Shed (when t k m) (when false k' m')
  s_need : (a : Fault) (w : ℕ) {k k' : Syntax} → Shed k k' → Least w k' → Shed (need a w k) (need a w k')
  s_less : (a : Fault) (w : ℕ) {k s : Syntax} → Shed k s → Shed (need a w k) s

-- fields of the one, without covariance, are fields of the other
shed_good : {l i : Bool} {s s' : Syntax} {ts : List Field} → Shed s s' → Good l i s ts → Good l i s' (redact ts)
unfolding redact
shed_good s_end g_end = g_end
shed_good (s_field g nm w {k} {k'} o x) (g_field _ _ _ _ v h e r) =
    rw (o.0, o.1) (g_field g nm w k' v h e (shed_good (x v) r))
shed_good (s_flag g nm w {k} {k'} p q x) (g_field _ _ _ _ v h e r) =
    rw (p, q) (g_field g nm w k' 0 h (omega (arith, e)) (shed_good (x v) r))
shed_good (s_part g nm w p x) (g_field _ _ _ _ v _ _ r) = rw p (shed_good (x v) r)
shed_good (s_when x y) (g_yes r) = g_yes (shed_good x r)
shed_good (s_when x y) (g_no r) = g_no (shed_good y r)
shed_good (s_off x y) (g_yes r) = g_no (shed_good x r)
shed_good (s_off x y) (g_no r) = g_no (shed_good y r)
shed_good (s_need a w x m) (g_need _ _ _ r) = let r' = shed_good x r in g_need a w (least w r' m) r'
shed_good (s_less a w x) (g_need _ _ _ r) = shed_good x r

-- so they are before the descriptions had their tests
shed_before : {s s' : Syntax} → Shed s s' → Shed (before s) (before s')
shed_before s_end = s_end
shed_before (s_field g nm w o x) = s_field g nm w o (λ v. shed_before (x v))
shed_before (s_flag g nm w p q x) = s_flag g nm w p q (λ v. shed_before (x v))
shed_before (s_part g nm w p x) = s_part g nm w p (λ v. shed_before (x v))
shed_before (s_when x y) = s_when (shed_before x) (shed_before y)
shed_before (s_off x y) = s_off (shed_before x) (shed_before y)
shed_before (s_need a w {k} {k'} x m) = s_need a w (shed_before x) (least_before w k' m)
shed_before (s_less a w x) = s_less a w (shed_before x)

-- ---- the satellite's

-- lines that are neither the flag nor the part
shed_u : (nm : Name) (w : ℕ) {s s' : Syntax} → Ordinary nm → Shed s s' → Shed (u nm w s) (u nm w s')
shed_u nm w o x = s_field unsigned nm w o (λ _. x)

-- the four fields of a stamp
abbrev OrdinaryStamp : Name → Type 0
OrdinaryStamp t =
    Ordinary (text.◌++◌ t "_year") × Ordinary (text.◌++◌ t "_reserved_zero_future_use")
    × Ordinary (text.◌++◌ t "_day") × Ordinary (text.◌++◌ t "_day_fraction")

shed_stamp : (t : Name) {s s' : Syntax} → OrdinaryStamp t → Shed s s' → Shed (stamp t s) (stamp t s')
shed_stamp t o x =
    shed_u (text.◌++◌ t "_year") 8 o.0 (shed_u (text.◌++◌ t "_reserved_zero_future_use") 7 o.1
    (shed_u (text.◌++◌ t "_day") 9 o.2 (shed_u (text.◌++◌ t "_day_fraction") 32 o.3 x)))

shed_times : (n : ℕ) (f : Syntax → Syntax) {s s' : Syntax} → ((r r' : Syntax) → Shed r r' → Shed (f r) (f r'))
    → Shed s s' → Shed (times n f s) (times n f s')
shed_times zero f k x = x
shed_times (suc n) f {s} {s'} k x = k (times n f s) (times n f s') (shed_times n f k x)

shed_motion : {s s' : Syntax} → Shed s s' → Shed (motion s) (motion s')
unfolding is_part is_flag
shed_motion x =
    shed_stamp "epoch" ((refl, refl), (refl, refl), (refl, refl), (refl, refl))
    (shed_u "ephemeris_x" 32 (refl, refl) (shed_u "ephemeris_y" 32 (refl, refl) (shed_u "ephemeris_z" 32 (refl, refl)
    (shed_u "ephemeris_x_dot" 32 (refl, refl) (shed_u "ephemeris_y_dot" 32 (refl, refl)
    (shed_u "ephemeris_z_dot" 32 (refl, refl) x))))))

shed_acceleration : {s s' : Syntax} → Shed s s' → Shed (acceleration s) (acceleration s')
unfolding is_part is_flag
shed_acceleration x =
    shed_u "ephemeris_x_ddot" 32 (refl, refl) (shed_u "ephemeris_y_ddot" 32 (refl, refl)
    (shed_u "ephemeris_z_ddot" 32 (refl, refl) x))

shed_ephemeris : (accel : ℕ) (s s' : Syntax) → Shed s s' → Shed (ephemeris accel s) (ephemeris accel s')
shed_ephemeris accel s s' x =
    s_when
    (s_need EphemerisCut 344 (shed_motion (shed_acceleration x)) (λ _ _ _ _ _ _ _ _ _ _ _ _ _. least_zero s'))
    (s_need EphemerisCut 248 (shed_motion x) (λ _ _ _ _ _ _ _ _ _ _. least_zero s'))

-- whatever the flag was: where it is 0 nothing is there
shed_covariance : (flag : ℕ) → Shed (covariance flag) (covariance 0)
unfolding is_part is_flag
shed_covariance flag =
    s_off
    (s_less CovarianceCut 728
    (s_part unsigned "covariance_epoch_year" 8 refl (λ _.
    s_part unsigned "covariance_epoch_reserved_zero_future_use" 7 refl (λ _.
    s_part unsigned "covariance_epoch_day" 9 refl (λ _.
    s_part unsigned "covariance_epoch_day_fraction" 32 refl (λ _. elements 21))))))
    s_end
  where
    elements : (n : ℕ) → Shed (times n (u "covariance_elements" 32) end) end
    elements zero = s_end
    elements (suc n) = s_part unsigned "covariance_elements" 32 refl (λ _. elements n)

shed_ephemerides : (accel flag : ℕ) → Shed (ephemerides accel flag) (ephemerides accel 0)
unfolding is_part is_flag
shed_ephemerides accel flag =
    s_field unsigned "ephemeris_data_count" 16 (refl, refl) (λ n.
    shed_times n (ephemeris accel) (shed_ephemeris accel) (shed_covariance flag))

shed_usable : (fault : Fault) (nm : Name) (flag : ℕ) {s s' : Syntax} → OrdinaryStamp nm → Shed s s'
    → Shed (usable fault nm flag s) (usable fault nm flag s')
shed_usable fault nm flag {s} {s'} o x =
    s_when (s_need fault 56 (shed_stamp nm o x) (λ _ _ _ _. least_zero s')) x

shed_metadata : (start stop : ℕ) {s s' : Syntax} → Shed s s' → Shed (metadata start stop s) (metadata start stop s')
unfolding is_part is_flag
shed_metadata start stop {s} {s'} x =
    s_need MetadataCut 120
    (shed_stamp "total_start_time" ((refl, refl), (refl, refl), (refl, refl), (refl, refl))
    (shed_stamp "total_stop_time" ((refl, refl), (refl, refl), (refl, refl), (refl, refl))
    (shed_u "metadata.reserved_zero_future_use" 1 (refl, refl) (shed_u "interpolation_flag" 1 (refl, refl)
    (shed_u "interpolation_type" 3 (refl, refl) (shed_u "interpolation_degree" 3 (refl, refl)
    (shed_usable UsableStartCut "usable_start_time" start ((refl, refl), (refl, refl), (refl, refl), (refl, refl))
    (shed_usable UsableStopCut "usable_stop_time" stop ((refl, refl), (refl, refl), (refl, refl), (refl, refl))
    x))))))))
    (λ _ _ _ _ _ _ _ _ _ _ _ _.
    least_zero (usable UsableStartCut "usable_start_time" start (usable UsableStopCut "usable_stop_time" stop s')))

-- the flag, and all that depends on it
shed_position3 : Shed position3 position3
unfolding position3 is_part is_flag
shed_position3 =
    shed_u "satellite_id" 24 (refl, refl) (shed_u "reserved_zero_future_use" 3 (refl, refl)
    (s_field unsigned "metadata_flag" 1 (refl, refl) (λ meta.
    s_field unsigned "usable_start_time_flag" 1 (refl, refl) (λ start.
    s_field unsigned "usable_stop_time_flag" 1 (refl, refl) (λ stop.
    s_field unsigned "ephemeris_accel_flag" 1 (refl, refl) (λ accel.
    s_flag unsigned "covariance_flag" 1 refl refl (λ cov.
    s_when (shed_metadata start stop (shed_ephemerides accel cov)) (shed_ephemerides accel cov))))))))

-- hence of a satellite's fields, now and before
pub redact_good : {l i : Bool} {ts : List Field} → Good l i position3 ts → Good l i position3 (redact ts)
redact_good r = shed_good shed_position3 r

pub redact_good_before : {l i : Bool} {ts : List Field} → Good l i (before position3) ts
    → Good l i (before position3) (redact ts)
redact_good_before r = shed_good (shed_before shed_position3) r
