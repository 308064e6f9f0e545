-- S-31: copies without covariance: they are ledgers again, they are one for all that differ only in covariance, and a
-- copy of a copy is itself.
-- Assumes nothing.
use mathlib.Core.Path.{◌≡◌, sym, ap, ap₂, ◌∙◌, subst}
use mathlib.Core.Bool.{Bool, cond}
use mathlib.Core.Logic.{◌↔◌}
use mathlib.Core.List.{List, []}
use Prim.Native.Nat.{ℕ, ◌≤◌}
use lib.ListN.{length}
use borrow.Author.Tests.{ne_eqb}
use Rattle.std.specs.Prelude.{All}
use Rattle.format.specs.Digits.{Below}
use Rattle.format.specs.Syntax.{Field, got, refused}
use Rattle.format.specs.declared.Fault.{Fault}
use Rattle.format.specs.declared.Edition.{Edition}
use Rattle.format.specs.Whole.{layout, layout_before, Table, entries_of, Accepted, AcceptedBefore, kept_of, ledger_of, id_of, edition_of, ledger_read}
use Rattle.format.specs.Redact.{Clean, redact, others, each, satellites, redacted, SameOthers}
use Rattle.format.proofs.ParseLaws.{then_got}
use Rattle.format.proofs.TableLaws.{fine_layout, GoodTable, form_of}
use Rattle.format.proofs.Demand.{IsLedger, accepted_before, body_again, ledger_all, ledger_again, read_accepted, id_of_lem, edition_of_lem}
use Rattle.format.proofs.ConvertLaws.{inj, read_body_accepted, good, own_form}
use Rattle.format.proofs.RedactTables.{each_clean, under, under_now, under_form, under_size, under_again, under_others, under_same}

-- ---- a ledger that is read, and one that is refused

-- the copy of a ledger that is read
pub copy_is : (l : List ℕ) (t : Table) → ledger_read l ≡ got t []
    → redacted l ≡ got (ledger_of (edition_of l) (id_of l) (satellites redact (id_of l) t)) []
unfolding redacted
copy_is l t e = rw e

-- the ledger's own refusals, and no other
pub redact_faults : (l : List ℕ) (a : Fault) (b c : ℕ) → ledger_read l ≡ refused a b c → redacted l ≡ refused a b c
unfolding redacted
redact_faults l a b c e = rw e

-- "Ledgers under other ids are copied unaltered."
pub unaltered : (l : List ℕ) (t : Table) → Below 256 l → ledger_read l ≡ got t [] → (id_of l ≡ 4 → ⊥)
    → redacted l ≡ got l []
unfolding satellites
unaltered l t h e n =
    copy_is l t e
    ∙ ap (λ (x : List ℕ). got x [])
    (ap (λ (c : Bool). ledger_of (edition_of l) (id_of l) (cond c (each redact t) t)) (ne_eqb (id_of l) 4 n)
    ∙ (read_accepted l t h e).1)

-- ---- the copy

-- a copy: of which fields it is the ledger, and that it is read as them
pub record Redacts (l l' : List ℕ) : Type 0 where
  pub table : Table
  pub reads : ledger_read l ≡ got table []
  pub is : l' ≡ ledger_of (edition_of l) (id_of l) (satellites redact (id_of l) table)
  pub id : id_of l' ≡ id_of l
  pub edition : edition_of l' ≡ edition_of l
  pub again : ledger_read l' ≡ got (satellites redact (id_of l) table) []

module _ (l : List ℕ) (t : Table) (h : Below 256 l) (e : ledger_read l ≡ got t []) where
  -- the fields without covariance come back through the ledger's edition as they are
  copy_reads : ledger_read (ledger_of (edition_of l) (id_of l) (satellites redact (id_of l) t))
      ≡ got (satellites redact (id_of l) t) []
  copy_reads =
      ledger_again (edition_of l) (under (id_of l) (read_body_accepted l t h e))
      ∙ ap (λ (x : Table). got x []) (under_form (id_of l) (edition_of l) t (good l t h e) (own_form l t h e))

pub accepted_copy : (l : List ℕ) {l' rest : List ℕ} → Below 256 l → redacted l ≡ got l' rest → Redacts l l'
unfolding redacted
accepted_copy l {l'} {rest} h e =
    let k : Table → List ℕ = λ t. ledger_of (edition_of l) (id_of l) (satellites redact (id_of l) t) in
    let o = then_got (ledger_read l) (λ t r. got (k t) []) e in
    let q : ledger_read l ≡ got o.0 [] = rw (ledger_all l o.2) at o.2 in
    let s : got (k o.0) [] ≡ got l' rest = o.3 in
    let z : l' ≡ k o.0 = cc in
    record {
      table = o.0;
      reads = q;
      is = z;
      id = ap id_of z ∙ id_of_lem (edition_of l) (id_of l) (satellites redact (id_of l) o.0);
      edition = ap edition_of z ∙ edition_of_lem (edition_of l) (id_of l) (satellites redact (id_of l) o.0);
      again = ap ledger_read z ∙ copy_reads l o.0 h q;
    }

-- "The copy is itself an accepted ledger of its edition", of a body accepted before
pub copy_stored : (l : List ℕ) {l' rest : List ℕ} → Below 256 l → redacted l ≡ got l' rest
    → IsLedger AcceptedBefore (edition_of l) l'
copy_stored l h e =
    let r = accepted_copy l h e in
    let u : Table = satellites redact (id_of l) r.table in
    record {
      id = id_of l;
      body = kept_of u;
      table = u;
      accepted = under (id_of l) (read_body_accepted l r.table h r.reads);
      is = sym r.is;
    }

-- and of one accepted now, if the first ledger is so
pub copy_now : (ed : Edition) (l : List ℕ) {l' rest : List ℕ} → Below 256 l → IsLedger Accepted ed l
    → redacted l ≡ got l' rest → IsLedger Accepted ed l'
copy_now ed l {l'} h w e =
    let r = accepted_copy l h e in
    let i : id_of l ≡ w.id = ap id_of (sym w.is) ∙ id_of_lem ed w.id w.table in
    let d : edition_of l ≡ ed = ap edition_of (sym w.is) ∙ edition_of_lem ed w.id w.table in
    let z : r.table ≡ form_of ed w.table =
    inj (sym r.reads ∙ ap ledger_read (sym w.is) ∙ ledger_again ed (accepted_before w.accepted)) in
    let u : Table = satellites redact w.id (form_of ed w.table) in
    record {
      id = w.id;
      body = kept_of u;
      table = u;
      accepted = under_now w.id (body_again ed (fine_layout w.id) w.accepted);
      is =
          ap₂ (λ (x : Edition) (k : ℕ). ledger_of x k (satellites redact k (form_of ed w.table))) (sym d) (sym i)
          ∙ ap (λ (y : Table). ledger_of (edition_of l) (id_of l) (satellites redact (id_of l) y)) (sym z) ∙ sym r.is;
    }

-- no longer than the first
pub copy_length : (l : List ℕ) {l' rest : List ℕ} → Below 256 l → redacted l ≡ got l' rest → length l' ≤ length l
copy_length l h e =
    let r = accepted_copy l h e in
    let q = (read_accepted l r.table h r.reads).1 in
    rw r.is (rw q at (under_size (id_of l) (edition_of l) r.table))

-- a copy of a copy is that copy
pub copy_of_copy : (l : List ℕ) {l' rest : List ℕ} → Below 256 l → redacted l ≡ got l' rest → redacted l' ≡ got l' []
copy_of_copy l {l'} h e =
    let r = accepted_copy l h e in
    let t : Table = satellites redact (id_of l) r.table in
    copy_is l' t r.again
    ∙ ap (λ (x : List ℕ). got x [])
    (ap₂ (λ (x : Edition) (k : ℕ). ledger_of x k (satellites redact k t)) r.edition r.id
    ∙ ap (ledger_of (edition_of l) (id_of l)) (under_again (id_of l) r.table) ∙ sym r.is)

-- "all else kept": a ledger and its copy differ only in covariance flags and parts
pub copy_others : (l : List ℕ) {l' rest : List ℕ} → Below 256 l → redacted l ≡ got l' rest → SameOthers l l'
copy_others l {l'} h e =
    let r = accepted_copy l h e in
    let t : Table = satellites redact (id_of l) r.table in
    record {
      table = r.table;
      table' = t;
      reads = r.reads;
      reads' = r.again;
      id = sym r.id;
      edition = sym r.edition;
      rest = sym (under_others (id_of l) r.table) ∙ ap (λ (k : ℕ). satellites others k t) (sym r.id);
    }

-- "the flag byte 0 and the part gone, for every satellite"
pub copy_clean : (l : List ℕ) (t : Table) → Below 256 l → ledger_read l ≡ got t [] → id_of l ≡ 4
    → All (λ (ts : List Field). All Clean ts) (entries_of (satellites redact (id_of l) t))
unfolding satellites
copy_clean l t h e i =
    let g : GoodTable (layout_before (layout 4)) t =
    subst (λ (k : ℕ). GoodTable (layout_before (layout k)) t) i (good l t h e) in
    rw i (each_clean g)

-- Of two accepted ledgers that "differ only in covariance flags and parts" the copies "are the same bytes"
pub same_copies : {l l' : List ℕ} → SameOthers l l' → Below 256 l → Below 256 l' → redacted l ≡ redacted l'
same_copies {l} {l'} s h h' =
    let i : ℕ = id_of l in
    let t : Table = s.table in
    let t' : Table = s.table' in
    let g' : GoodTable (layout_before (layout i)) t' =
    subst (λ (k : ℕ). GoodTable (layout_before (layout k)) t') (sym s.id) (good l' t' h' s.reads') in
    let o : satellites others i t ≡ satellites others i t' =
    s.rest ∙ ap (λ (k : ℕ). satellites others k t') (sym s.id) in
    copy_is l t s.reads
    ∙ ap (λ (x : List ℕ). got x [])
    (ap (ledger_of (edition_of l) i) (under_same i (good l t h s.reads) g' o)
    ∙ ap₂ (λ (x : Edition) (k : ℕ). ledger_of x k (satellites redact k t')) s.edition s.id)
    ∙ sym (copy_is l' t' s.reads')

-- and only of such: where the first is read, the copies are the same exactly if the ledgers differ only so
pub same_exactly : (l l' : List ℕ) → Below 256 l → Below 256 l'
    → SameOthers l l' ↔ ((t : Table) × (ledger_read l ≡ got t []) × (redacted l ≡ redacted l'))
same_exactly l l' h h' = (λ s. (s.table, s.reads, same_copies s h h'), λ r. back r.0 r.1 r.2)
  where
    back : (t : Table) → ledger_read l ≡ got t [] → redacted l ≡ redacted l' → SameOthers l l'
    back t e q =
        let r = accepted_copy l h (copy_is l t e) in
        let r' = accepted_copy l' h' (sym q ∙ copy_is l t e) in
        let same : satellites redact (id_of l) r.table ≡ satellites redact (id_of l') r'.table =
        inj (sym r.again ∙ r'.again) in
        let i : id_of l ≡ id_of l' = sym r.id ∙ r'.id in
        record {
          table = r.table;
          table' = r'.table;
          reads = r.reads;
          reads' = r'.reads;
          id = i;
          edition = sym r.edition ∙ r'.edition;
          rest =
              sym (under_others (id_of l) r.table)
              ∙ ap₂ (λ (k : ℕ) (u : Table). satellites others k u) i same ∙ under_others (id_of l') r'.table;
        }
