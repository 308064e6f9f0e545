-- What a ledger's measure is, test by test.
-- Assumes nothing.
use Prim.Native.Nat.{ℕ, ◌-◌, ◌/◌, ◌^◌, ◌≤◌, ◌<◌}
use mathlib.Core.Path.{◌≡◌, refl, sym, ap, ap₂, ◌∙◌, subst}
use mathlib.Core.Bool.{Bool, true, false, cond}
use mathlib.Core.List.{List, [], ◌++◌}
use native.Mathlib.Omega.{arith}
use lib.ListN.{length, take, drop, length-append}
use lib.Seq.{length-take-le}
use borrow.Author.Tests.{le-leb, lt-leb, eq-eqb, ne_eqb}
use Rattle.std.specs.Prelude.{Result, Ok, Err}
use Rattle.format.specs.Digits.{value, Below, bits_of}
use Rattle.format.specs.Refusals.{refuse}
use Rattle.format.specs.Syntax.{got, refused}
use Rattle.format.specs.declared.Edition.{Edition}
use Rattle.format.specs.declared.UnknownVersion.{UnknownVersion}
use Rattle.format.specs.declared.Edition.TheVariants.{Second}
use Rattle.format.specs.Body.{kept}
use Rattle.format.specs.Whole.{edition_for, edition_named, Layout, layout, Table, one, list, as_it_is, laids, body_of, kept_of, content_as, sized, version_of, id_of, known, edition_of, ledger_read}
use Rattle.format.specs.Calls.{done, restored}
use Rattle.format.specs.declared.Fault.{Fault}
use Rattle.format.specs.declared.Refusal.{Refusal}
use Rattle.format.specs.declared.Fault.TheVariants.{LedgerMisfit, VersionUnknown, RestoredTooLong}
use Rattle.format.proofs.DigitLaws.{length_bits, bits_bytes, value_lt, below_take, below_append, below_drop}
use Rattle.format.proofs.Good
use Rattle.format.proofs.Forms.{kept_form, laids_forms}
use Rattle.format.proofs.EntryLaws.{whole_entries, entries_below}
use Rattle.format.proofs.TableLaws.{FineLayout, fine_layout, fine_before_layout, GoodTable, good_one, good_list, good_raw, form_of, kept_form_of, good_form_of, content_good, content_all}
use Rattle.ledger_reader.specs.Held.{Framed, bits_in, Held, Refuses}
use Rattle.ledger_reader.specs.Measured.{measure_of, Measures}
use Rattle.ledger_reader.specs.declared.Measured.{Measured}

-- a good table's bits are whole bytes, those of its kept body
kept_bits : {k : Layout} {t : Table} → FineLayout k → GoodTable k t → bits_of (kept_of t) ≡ bits_in Second t
unfolding body_of
kept_bits x (good_one {ts} g) = bits_bytes (length (kept ts) / 8) (kept ts) (omega (arith, Good.whole Second 0 0 g x)) (Good.kept_below g)
kept_bits x (good_list {s} {hs} {es} g gs) =
    let keeps : List ℕ = laids Second es in
    let p : List ℕ = kept hs ++ keeps in
    bits_bytes (length p / 8) p (omega (arith, Good.whole Second 0 0 g x.0, whole_entries Second s es x.1 gs, length-append (kept hs) keeps))
    (below_append 2 (kept hs) keeps (Good.kept_below g) (entries_below s es gs))
kept_bits x (good_raw h) = refl

bits_form_of : (ed : Edition) (t : Table) → bits_in Second (form_of ed t) ≡ bits_in ed t
unfolding form_of
bits_form_of ed (one ts) = kept_form ed ts
bits_form_of ed (list hs es) = ap₂ (λ (x y : List ℕ). x ++ y) (kept_form ed hs) (laids_forms ed es)
bits_form_of ed (as_it_is b) = refl

-- and so are they in each edition
pub body_bits : {k : Layout} {t : Table} (ed : Edition) → FineLayout k → GoodTable k t → bits_of (body_of ed t) ≡ bits_in ed t
body_bits {t = t} ed x g = ap bits_of (sym (kept_form_of ed t)) ∙ kept_bits x (good_form_of ed x g) ∙ bits_form_of ed t

-- ---- a ledger's first four bytes

-- they are there, and say the length and the version of an edition
pub record Headed (l : List ℕ) (ed : Edition) : Type 0 where
  pub four : 4 ≤ length l
  pub long : value 256 (take 2 l) ≡ length l - 2
  pub version : known (version_of l) ≡ true
  pub edition : ed ≡ edition_of l

-- what a version byte says
module _ (v : ℕ) where
  -- edition_named, by whether the version is known
  abbrev named : Bool → Result Edition UnknownVersion
  named t = cond t (Ok (edition_for v)) (Err (record { 0 = v }))

  known_by : {ed : Edition} → Ok ed ≡ edition_named v → (known v ≡ true) × (ed ≡ edition_for v)
  known_by {ed} e = go (known v) refl e
    where
      go : (t : Bool) → known v ≡ t → Ok ed ≡ named t → (known v ≡ true) × (ed ≡ edition_for v)
      go true h e = (h, cc)
      go false h e = let o : ◌≡◌ {A = ℕ} 0 1 = cc in absurd (omega arith)

  unknown_by : {u : UnknownVersion} → Err u ≡ edition_named v → known v ≡ false
  unknown_by {u} e = go (known v) refl e
    where
      go : (t : Bool) → known v ≡ t → Err u ≡ named t → known v ≡ false
      go true h e = let o : ◌≡◌ {A = ℕ} 0 1 = cc in absurd (omega arith)
      go false h e = h

pub headed : {l : List ℕ} {r : Result Edition UnknownVersion} {ed : Edition} → 4 ≤ length l → value 256 (take 2 l) ≡ length l - 2 → Ok ed ≡ r → r ≡ edition_named (version_of l) → Headed l ed
headed h e x q =
    let z = known_by _ (x ∙ q) in
    record { four = h; long = e; version = z.0; edition = z.1 }

pub framed : {l : List ℕ} → Below 256 l → 4 ≤ length l → value 256 (take 2 l) ≡ length l - 2 → Framed l
framed {l} b h e =
    let z : value 256 (take 2 l) < 256 ^ 2 = rw (length-take-le 2 l (omega arith)) at (value_lt 256 (take 2 l) (below_take 256 2 l b)) in
    record { four = h; short = omega arith }

module _ (l : List ℕ) where
  measure_no : {x : Fault} {y z : ℕ} → ledger_read l ≡ refused x y z → Err (refuse x y z) ≡ measure_of l
  unfolding measure_of restored
  measure_no e = rw e

  pub measure_short : length l < 4 → Err (refuse LedgerMisfit 0 0) ≡ measure_of l
  unfolding ledger_read
  measure_short h = measure_no (rw (lt-leb 4 (length l) h))

  pub measure_wrong : 4 ≤ length l → (value 256 (take 2 l) ≡ length l - 2 → ⊥) → Err (refuse LedgerMisfit 0 0) ≡ measure_of l
  unfolding ledger_read
  measure_wrong h e = measure_no (rw (le-leb 4 (length l) h, ne_eqb (value 256 (take 2 l)) (length l - 2) e))

  pub measure_version : {r : Result Edition UnknownVersion} {u : UnknownVersion} → 4 ≤ length l → value 256 (take 2 l) ≡ length l - 2 → Err u ≡ r → r ≡ edition_named (version_of l)
      → Err (refuse VersionUnknown 2 0) ≡ measure_of l
  unfolding ledger_read
  measure_version h e x q = measure_no (rw (le-leb 4 (length l) h, eq-eqb (value 256 (take 2 l)) (length l - 2) e, unknown_by _ (x ∙ q)))

  -- ---- its content

  module _ {ed : Edition} (h : Headed l ed) where
    read_on : ledger_read l ≡ sized (edition_of l) (content_as (edition_of l) (length l) (layout (id_of l)) (drop 4 l))
    unfolding ledger_read
    read_on = rw (le-leb 4 (length l) h.four, eq-eqb (value 256 (take 2 l)) (length l - 2) h.long, h.version)

    pub measure_unread : {g : Refusal} {r : Result Measured Refusal} → r ≡ Err g → Refuses (content_as ed (length l) (layout (id_of l)) (drop 4 l)) g
        → Measures l r
    measure_unread {g} q x =
        let y = subst (λ (e : Edition). Refuses (content_as e (length l) (layout (id_of l)) (drop 4 l)) g) h.edition x in
        rw q (record { to = measure_no (read_on ∙ rw y.reads) })

    module _ (b : Below 256 l) {none none' : List ℕ} {q a : ℕ} (y : Held (bits_in ed) l (content_as ed (length l) (layout (id_of l)) (drop 4 l)) 0 none q a none') where
      x : Held (bits_in (edition_of l)) l (content_as (edition_of l) (length l) (layout (id_of l)) (drop 4 l)) 0 none q a none'
      x = subst (λ (e : Edition). Held (bits_in e) l (content_as e (length l) (layout (id_of l)) (drop 4 l)) 0 none q a none') h.edition y

      reads : content_as (edition_of l) (length l) (layout (id_of l)) (drop 4 l) ≡ got x.what []
      reads = x.reads ∙ ap (got x.what) (content_all (edition_of l) (length l) (layout (id_of l)) (drop 4 l) x.reads)

      eighth : a / 8 ≡ length (body_of (edition_of l) x.what)
      eighth =
          let g = content_good (edition_of l) (length l) (layout (id_of l)) (drop 4 l) x.what (fine_layout (id_of l)) (below_drop 256 4 l b) reads in
          omega (arith, x.size, ap length (body_bits (edition_of l) (fine_before_layout (layout (id_of l)) (fine_layout (id_of l))) g.good), length_bits (body_of (edition_of l) x.what))

      pub measure_big : 4096 < a / 8 → Err (refuse RestoredTooLong (a / 8) 4096) ≡ measure_of l
      measure_big m = rw eighth (measure_no (read_on ∙ rw (reads, lt-leb (length (body_of (edition_of l) x.what)) 4096 (omega (arith, eighth)))))

      pub measure_size : a / 8 ≤ 4096 → done (id_of l) (a / 8) ≡ measure_of l
      unfolding measure_of restored
      measure_size m = rw (eighth, read_on, reads, le-leb (length (body_of (edition_of l) x.what)) 4096 (omega (arith, eighth)))
