-- A satellite's bytes in a ledger, and those that its copy keeps: five bytes, the flags, the metadata, the count, the
-- ephemeris entries, and last the covariance, each of a size that the flags and the count tell.
-- Assumes nothing.
use Prim.Native.Nat.{ℕ, ◌+◌, ◌*◌, ◌^◌, ◌<◌}
use mathlib.Core.Path.{◌≡◌, refl, sym, ap, ap₂, ◌∙◌}
use mathlib.Core.Bool.{Bool, true, false}
use mathlib.Core.List.{List, [], ◌∷◌, ◌++◌, append_assoc, append-nil}
use native.Mathlib.Omega.{arith}
use lib.Dec.{eqb}
use lib.ListN.{length, length-append}
use Rattle.format.specs.declared.Edition.{Edition}
use Rattle.format.specs.declared.Fault.TheVariants.{BodyEmpty, HeaderCut}
use Rattle.format.specs.Digits.{digits}
use Rattle.format.specs.Syntax.{Name, unsigned, end, when, before, Field, num}
use Rattle.format.specs.Ledger.{size, ledger}
use Rattle.format.specs.Tables.{ephemerides, metadata, header, position3}
use Rattle.format.specs.Redact.{is_flag, is_part, redact}
use Rattle.format.proofs.DigitLaws.{length_digits}
use Rattle.format.proofs.Good
use Rattle.format.proofs.PlanLaws.{field_of}
use Rattle.format.proofs.RedactFields.{Ordinary, redact_by}
use Rattle.runs.specs.declared.Flags.{Flags}
use Rattle.ledger_redactor.specs.Places.{metadata_size, entry_size, covariance_size}
use Rattle.ledger_redactor.proofs.Parts.{cons_ledger, Over, at_once, needing, over_before, front, part_before, part_gone, over_u, over_stamp, over_entries, flags_of, over_rest, part_covariance}

-- ---- a satellite's bytes

pub record Satellite (bs keeps : List ℕ) : Type 0 where
  pub front : List ℕ
  pub meta : ℕ
  pub start : ℕ
  pub stop : ℕ
  pub accel : ℕ
  pub cov : ℕ
  pub about : List ℕ
  pub count : ℕ
  pub each : List ℕ
  pub part : List ℕ
  pub five : length front ≡ 5
  pub about_size : length about ≡ metadata_size (flags_of meta start stop accel cov)
  pub few : count < 65536
  pub each_size : length each ≡ count * entry_size (eqb accel 1)
  pub part_size : length part ≡ covariance_size (eqb cov 1)
  pub is : bs ≡ front ++ (meta ∷ start ∷ stop ∷ accel ∷ cov ∷ (about ++ (digits 256 2 count ++ (each ++ part))))
  pub keeps_is : keeps ≡ front ++ (meta ∷ start ∷ stop ∷ accel ∷ 0 ∷ (about ++ (digits 256 2 count ++ each)))

one_byte : (v : ℕ) → v < 2 ^ 1 → digits 256 1 v ≡ v ∷ []
unfolding digits
one_byte v h = ap (λ (x : ℕ). x ∷ []) (omega arith)

-- a flag in front of others: its byte, which the copy keeps
module _ (ed : Edition) (nm : Name) {v : ℕ} {ts us : List Field} (e : ts ≡ num unsigned nm 1 v ∷ us)
    (h : v < 2 ^ 1) where
  flag_byte : ledger ed ts ≡ v ∷ ledger ed us
  flag_byte = ap (ledger ed) e ∙ cons_ledger ed unsigned nm 1 v us
      ∙ ap (λ (d : List ℕ). d ++ ledger ed us) (one_byte v h)

  flag_kept : Ordinary nm → ledger ed (redact ts) ≡ v ∷ ledger ed (redact us)
  flag_kept o =
      ap (λ (x : List Field). ledger ed (redact x)) e
      ∙ ap (ledger ed) (redact_by (num unsigned nm 1 v) us false false o.0 o.1)
      ∙ cons_ledger ed unsigned nm 1 v (redact us) ∙ ap (λ (d : List ℕ). d ++ ledger ed (redact us)) (one_byte v h)

field_kept : (ed : Edition) (nm : Name) (w : ℕ) {v : ℕ} {ts us : List Field} → ts ≡ num unsigned nm w v ∷ us
    → Ordinary nm
    → ledger ed (redact ts) ≡ digits 256 (size unsigned w) v ++ ledger ed (redact us)
field_kept ed nm w {v} {ts} {us} e o =
    ap (λ (x : List Field). ledger ed (redact x)) e
    ∙ ap (ledger ed) (redact_by (num unsigned nm w v) us false false o.0 o.1)
    ∙ cons_ledger ed unsigned nm w v (redact us)

-- what follows the flags
record Rest (bs keeps : List ℕ) (f : Flags) : Type 0 where
  about : List ℕ
  count : ℕ
  each : List ℕ
  part : List ℕ
  about_size : length about ≡ metadata_size f
  few : count < 65536
  each_size : length each ≡ count * entry_size f.acceleration
  part_size : length part ≡ covariance_size f.covariance
  is : bs ≡ about ++ (digits 256 2 count ++ (each ++ part))
  keeps_is : keeps ≡ about ++ (digits 256 2 count ++ each)

rest : {l i : Bool} {ts : List Field} (ed : Edition) (meta start stop accel cov : ℕ)
    → Good.Good l i (before (when (eqb meta 1) (metadata start stop (ephemerides accel cov))
    (ephemerides accel cov))) ts
    → Rest (ledger ed ts) (ledger ed (redact ts)) (flags_of meta start stop accel cov)
unfolding is_part is_flag ledger
rest {ts = ts} ed meta start stop accel cov r =
    let a = front ed (over_before (over_rest meta start stop accel cov)) r in
    let c = field_of a.good in
    let e = front ed (over_before (over_entries c.v accel)) c.good in
    let p = part_gone ed (part_before (part_covariance cov)) e.good in
    let d : List ℕ = digits 256 2 c.v in
    let es : List ℕ = ledger ed e.us in
    let counted = field_kept ed "ephemeris_data_count" 16 c.is (refl, refl) in
    let entries = e.kept ∙ ap (λ (x : List Field). es ++ ledger ed x) p.0 ∙ append-nil es in
    record {
      about = ledger ed a.us;
      count = c.v;
      each = es;
      part = ledger ed e.vs;
      about_size = a.size;
      few = omega (arith, c.small);
      each_size = e.size;
      part_size = p.1;
      is = a.is ∙ ap (λ (x : List ℕ). ledger ed a.us ++ x) (ap (ledger ed) c.is
          ∙ cons_ledger ed unsigned "ephemeris_data_count" 16 c.v c.us ∙ ap (λ (x : List ℕ). d ++ x) e.is);
      keeps_is = a.kept ∙ ap (λ (x : List ℕ). ledger ed a.us ++ x) (counted ∙ ap (λ (x : List ℕ). d ++ x) entries);
    }

pub satellite : {l i : Bool} {ts : List Field} (ed : Edition) → Good.Good l i (before position3) ts
    → Satellite (ledger ed ts) (ledger ed (redact ts))
unfolding position3 is_part is_flag
satellite {ts = ts} ed r =
    let a = field_of r in
    let b = field_of a.good in
    let c = field_of b.good in
    let d = field_of c.good in
    let e = field_of d.good in
    let f = field_of e.good in
    let g = field_of f.good in
    let x = rest ed c.v d.v e.v f.v g.v g.good in
    let ia : List ℕ = digits 256 4 a.v in
    let ib : List ℕ = digits 256 1 b.v in
    let tail : List ℕ = x.about ++ (digits 256 2 x.count ++ (x.each ++ x.part)) in
    let kept : List ℕ = x.about ++ (digits 256 2 x.count ++ x.each) in
    let flag : List Field = num unsigned "covariance_flag" 1 0 ∷ redact g.us in
    let cleared = flag_byte ed "covariance_flag" {v = 0} {ts = flag} {us = redact g.us} refl (omega arith) in
    record {
      front = ia ++ ib;
      meta = c.v;
      start = d.v;
      stop = e.v;
      accel = f.v;
      cov = g.v;
      about = x.about;
      count = x.count;
      each = x.each;
      part = x.part;
      five = length-append ia ib ∙ ap₂ ◌+◌ (length_digits 256 4 a.v) (length_digits 256 1 b.v);
      about_size = x.about_size;
      few = x.few;
      each_size = x.each_size;
      part_size = x.part_size;
      is =
          ap (ledger ed) a.is ∙ cons_ledger ed unsigned "satellite_id" 24 a.v a.us
          ∙ ap (λ (y : List ℕ). ia ++ y) (ap (ledger ed) b.is
          ∙ cons_ledger ed unsigned "reserved_zero_future_use" 3 b.v b.us
          ∙ ap (λ (y : List ℕ). ib ++ y) (flag_byte ed "metadata_flag" c.is c.small
          ∙ ap (λ (y : List ℕ). c.v ∷ y) (flag_byte ed "usable_start_time_flag" d.is d.small
          ∙ ap (λ (y : List ℕ). d.v ∷ y) (flag_byte ed "usable_stop_time_flag" e.is e.small
          ∙ ap (λ (y : List ℕ). e.v ∷ y) (flag_byte ed "ephemeris_accel_flag" f.is f.small
          ∙ ap (λ (y : List ℕ). f.v ∷ y) (flag_byte ed "covariance_flag" g.is g.small
          ∙ ap (λ (y : List ℕ). g.v ∷ y) x.is))))))
          ∙ sym (append_assoc ia ib (c.v ∷ d.v ∷ e.v ∷ f.v ∷ g.v ∷ tail));
      keeps_is =
          field_kept ed "satellite_id" 24 a.is (refl, refl)
          ∙ ap (λ (y : List ℕ). ia ++ y) (field_kept ed "reserved_zero_future_use" 3 b.is (refl, refl)
          ∙ ap (λ (y : List ℕ). ib ++ y) (flag_kept ed "metadata_flag" c.is c.small (refl, refl)
          ∙ ap (λ (y : List ℕ). c.v ∷ y) (flag_kept ed "usable_start_time_flag" d.is d.small (refl, refl)
          ∙ ap (λ (y : List ℕ). d.v ∷ y) (flag_kept ed "usable_stop_time_flag" e.is e.small (refl, refl)
          ∙ ap (λ (y : List ℕ). e.v ∷ y) (flag_kept ed "ephemeris_accel_flag" f.is f.small (refl, refl)
          ∙ ap (λ (y : List ℕ). f.v ∷ y) (ap (λ (y : List Field). ledger ed (redact y)) g.is
          ∙ ap (ledger ed) (redact_by (num unsigned "covariance_flag" 1 g.v) g.us false true refl refl)
          ∙ cleared
          ∙ ap (λ (y : List ℕ). 0 ∷ y) x.keeps_is))))))
          ∙ sym (append_assoc ia ib (c.v ∷ d.v ∷ e.v ∷ f.v ∷ 0 ∷ kept));
    }

-- ---- the header is ten bytes

nothing : {l i : Bool} {vs : List Field} {b : List ℕ} (ed : Edition) (us : List Field) → Good.Good l i end vs
    → b ≡ ledger ed us ++ ledger ed vs → length (ledger ed us) ≡ 10 → length b ≡ 10
unfolding ledger
nothing ed us Good.g_end e n = ap length (e ∙ append-nil (ledger ed us)) ∙ n

pub header_size : {l i : Bool} {hs : List Field} (ed : Edition) → Good.Good l i (before header) hs
    → length (ledger ed hs) ≡ 10
unfolding header is_part is_flag
header_size ed g =
    let date = over_stamp "creation_date" (refl, refl) (refl, refl) (refl, refl) (refl, refl) at_once in
    let versions = over_u "oem_version_major" 4 (refl, refl) (over_u "oem_version_minor" 4 (refl, refl) date) in
    let x : Over 10 header end = needing BodyEmpty 1 (needing HeaderCut 64 versions) in
    let f = front ed (over_before x) g in
    nothing ed f.us f.good f.is f.size
