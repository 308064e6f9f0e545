-- Demand 3 of the definitions: bodies, their plain and kept bodies, and their ledgers in each edition.
-- Assumes nothing.
use mathlib.Core.Path.{◌≡◌, refl, sym, ap, ap₂, ◌∙◌}
use mathlib.Core.Bool.{Bool, true, false, cond, ◌&&◌, ◌||◌, and-eq-true_iff, true≢false}
use mathlib.Core.Logic.{◌↔◌}
use mathlib.Core.List.{List, [], ◌∷◌, ◌++◌}
use Prim.Native.Nat.{ℕ, suc, ◌+◌, ◌*◌, ◌-◌, ◌^◌, ◌<◌, ◌≤◌}
use native.Mathlib.Omega.{arith}
use lib.Dec.{leb, eqb}
use lib.ListN.{length, take, drop, get_or, length-append, length-drop, take-append-drop}
use borrow.Author.Tests.{le-leb, leb-true, eq-eqb, eqb-true}
use Rattle.std.proofs.lemmas.List.{drop_more}
use Rattle.format.specs.Digits.{digits, value, Below}
use Rattle.format.specs.Syntax.{Parse, got}
use Rattle.format.specs.declared.Edition.{Edition}
use Rattle.format.specs.declared.Edition.TheVariants.{First, Second}
use Rattle.format.specs.Whole.{Layout, layout, layout_before, Table, body_read_as, body_read, AcceptedAs, Accepted, AcceptedBefore, body_of, kept_of, content_of, version, ledger_of, content_as, sized, version_of, id_of, known, edition_for, edition_of, ledger_read}
use Rattle.format.proofs.DigitLaws.{length_digits, value_digits, digits_take, below_drop, digit_in}
use Rattle.format.proofs.ParseLaws.{cond_got, then_got}
use Rattle.format.proofs.TestLaws.{Still, tested_got, tested_still, tested_read}
use Rattle.format.proofs.TableLaws.{FineLayout, GoodTable, fine_layout, fine_before_layout, content_before, form_of, kept_form_of, content_form_of, body_form_of, good_form_of, kept_bytes, body_short, content_length, read_kept, content_again, read_good, content_good, read_all, content_all}

sized_got : {t : Table} {rest : List ℕ} (ed : Edition) (p : Parse Table) → sized ed p ≡ got t rest → (p ≡ got t rest) × (length (body_of ed t) ≤ 4096)
sized_got {t} {rest} ed p e =
    let o = then_got p _ e in
    let q = cond_got (leb (length (body_of ed o.0)) 4096) _ _ _ _ o.3 in
    let s : got o.0 o.1 ≡ got t rest = q.1 in
    let z : o.0 ≡ t = cc in
    (o.2 ∙ s, rw z at (leb-true (length (body_of ed o.0)) 4096 q.0))

-- nothing is left of a whole body or a whole ledger
pub body_all : (id : ℕ) (b : List ℕ) {t : Table} {r : List ℕ} → body_read id b ≡ got t r → r ≡ []
unfolding body_read_as
body_all id b e = read_all (layout id) b (cond_got (leb (length b) 4096) _ _ _ _ e).1

-- a version that is known is its edition's
known_version : (v : ℕ) → known v ≡ true → version (edition_for v) ≡ v
known_version v q = go (eqb v 1) (eqb v 2) refl refl q
  where
    go : (t u : Bool) → eqb v 1 ≡ t → eqb v 2 ≡ u → (t || u) ≡ true → version (cond u Second First) ≡ v
    go t true x y z = sym (eqb-true v 2 y)
    go true false x y z = sym (eqb-true v 1 x)
    go false false x y z = absurd (true≢false (sym z))

-- what the tests of a ledger's front found, and its content
pub record Passed (l : List ℕ) (t : Table) (r : List ℕ) : Type 0 where
  pub four : 4 ≤ length l
  pub long : value 256 (take 2 l) ≡ length l - 2
  edition : version (edition_of l) ≡ version_of l
  pub content : content_as (edition_of l) (length l) (layout (id_of l)) (drop 4 l) ≡ got t r
  size : length (body_of (edition_of l) t) ≤ 4096

pub passed : (l : List ℕ) {t : Table} {r : List ℕ} → ledger_read l ≡ got t r → Passed l t r
unfolding ledger_read
passed l e =
    let n : ℕ = length l in
    let c : Parse Table = content_as (edition_of l) n (layout (id_of l)) (drop 4 l) in
    let p = cond_got (leb 4 n && eqb (value 256 (take 2 l)) (n - 2)) _ _ _ _ e in
    let a = (and-eq-true_iff (leb 4 n) (eqb (value 256 (take 2 l)) (n - 2))).0 p.0 in
    let o = cond_got (known (version_of l)) _ _ _ _ p.1 in
    let z = sized_got (edition_of l) c o.1 in
    record {
      four = leb-true 4 n a.0;
      long = eqb-true (value 256 (take 2 l)) (n - 2) a.1;
      edition = known_version (version_of l) o.0;
      content = z.0;
      size = z.1;
    }

pub ledger_all : (l : List ℕ) {t : Table} {r : List ℕ} → ledger_read l ≡ got t r → r ≡ []
ledger_all l e = content_all (edition_of l) (length l) (layout (id_of l)) (drop 4 l) (passed l e).content

-- ---- accepted now and accepted before

-- what is accepted now was accepted before, with the same fields
pub accepted_before : {id : ℕ} {b : List ℕ} {t : Table} → Accepted id b t → AcceptedBefore id b t
accepted_before {id} {b} p = record { byte = p.byte; bytes = p.bytes; reads = tested_got (tested_read (layout id) b (fine_layout id)) p.reads }

-- what was accepted before is accepted now, with the same fields, or is refused for an extension above 299
pub still_accepted : {id : ℕ} {b : List ℕ} {t : Table} → AcceptedBefore id b t → Still (body_read id b) t []
still_accepted {id} {b} p = tested_still (tested_read (layout id) b (fine_layout id)) p.reads

pub fine_then : (id : ℕ) → FineLayout (layout_before (layout id))
fine_then id = fine_before_layout (layout id) (fine_layout id)

-- ---- an accepted body, and its plain and kept body; x: accepted in any sense

-- the kept body is no longer than the body, and that is not over 4096 bytes
pub accepted_good : {l : Layout} {id : ℕ} {b : List ℕ} {t : Table} → FineLayout l → AcceptedAs l id b t → GoodTable l t × (length (kept_of t) ≤ length b) × (length b ≤ 4096)
unfolding body_read_as
accepted_good {l} {id} {b} {t} x p =
    let q = cond_got (leb (length b) 4096) _ _ _ _ p.reads in
    let r = read_good l b t x p.bytes q.1 in
    (r.0, r.1, leb-true (length b) 4096 q.0)

-- good fields that are not too long are those of their kept body
pub good_accepted : (l : Layout) (id : ℕ) {t : Table} → FineLayout l → id < 256 → GoodTable l t → length (kept_of t) ≤ 4096 → AcceptedAs l id (kept_of t) t
unfolding body_read_as
good_accepted l id {t} x h g m =
    record {
      byte = h;
      bytes = kept_bytes g;
      reads = rw (le-leb (length (kept_of t)) 4096 m, read_kept x g m);
    }

-- an edition's body is accepted, and has the fields that come back through that edition, hence the same ledger and
-- itself for its body
pub body_again : {l : Layout} {id : ℕ} {b : List ℕ} {t : Table} (ed : Edition) → FineLayout l → AcceptedAs l id b t → AcceptedAs l id (body_of ed t) (form_of ed t)
body_again {l} {id} {t = t} ed x p =
    let g = accepted_good x p in
    let k = kept_form_of ed t in
    let m : length (kept_of (form_of ed t)) ≤ 4096 = rw k (omega (arith, body_short ed t)) in
    rw k at (good_accepted l id x p.byte (good_form_of ed x g.0) m)

pub ledger_form_of : (ed : Edition) (id : ℕ) (t : Table) → ledger_of ed id (form_of ed t) ≡ ledger_of ed id t
unfolding ledger_of
ledger_form_of ed id t = rw (content_form_of ed t)

-- a ledger has at most 6 + 2 n bytes
pub ledger_length : {l : Layout} {id : ℕ} {b : List ℕ} {t : Table} (ed : Edition) → FineLayout l → AcceptedAs l id b t → length (ledger_of ed id t) ≤ 6 + 2 * length b
unfolding ledger_of
ledger_length {l} {id} {b} {t} ed x p =
    let g = accepted_good x p in
    omega (
      arith,
      content_length ed x g.0,
      length-append (digits 256 2 (length (content_of ed t) + 2)) (version ed ∷ id ∷ content_of ed t),
      length_digits 256 2 (length (content_of ed t) + 2),
    )

-- ---- a ledger that was written

pub id_of_lem : (ed : Edition) (id : ℕ) (t : Table) → id_of (ledger_of ed id t) ≡ id
unfolding ledger_of digits
id_of_lem ed id t = refl

pub edition_of_lem : (ed : Edition) (id : ℕ) (t : Table) → edition_of (ledger_of ed id t) ≡ ed
unfolding ledger_of digits
edition_of_lem First id t = refl
edition_of_lem Second id t = refl

-- the front of a ledger: what its tests find
record Front (ed : Edition) (c : List ℕ) (id : ℕ) (l : List ℕ) : Type 0 where
  four : leb 4 (length l) ≡ true
  long : eqb (value 256 (take 2 l)) (length l - 2) ≡ true
  versions : known (get_or l 2 0) ≡ true
  edition : edition_for (get_or l 2 0) ≡ ed
  table : get_or l 3 0 ≡ id
  rest : drop 4 l ≡ c

front : (ed : Edition) (c : List ℕ) (id : ℕ) → length c + 2 < 256 ^ 2 → Front ed c id (digits 256 2 (length c + 2) ++ (version ed ∷ id ∷ c))
unfolding digits
front ed c id h =
    let v : value 256 (digits 256 2 (length c + 2)) ≡ length c + 2 = value_digits 256 2 (length c + 2) (omega arith) h in
    record {
      four = le-leb 4 (suc (suc (suc (suc (length c))))) (omega arith);
      long = eq-eqb (value 256 (digits 256 2 (length c + 2))) (suc (suc (suc (suc (length c)))) - 2) (v ∙ omega arith);
      versions = one_of ed;
      edition = its ed;
      table = refl;
      rest = refl;
    }
  where
    one_of : (e : Edition) → known (version e) ≡ true
    one_of First = refl
    one_of Second = refl

    its : (e : Edition) → edition_for (version e) ≡ e
    its First = refl
    its Second = refl

-- it is read, and gives the fields as far as its edition has them, and so the edition's body
pub ledger_again : {id : ℕ} {b : List ℕ} {t : Table} (ed : Edition) → AcceptedBefore id b t → ledger_read (ledger_of ed id t) ≡ got (form_of ed t) []
unfolding ledger_read ledger_of
ledger_again {id} {b} {t} ed p =
    let x : FineLayout (layout_before (layout id)) = fine_then id in
    let g = accepted_good x p in
    let f = front ed (content_of ed t) id (omega (arith, content_length ed x g.0)) in
    let n : ℕ = length (digits 256 2 (length (content_of ed t) + 2) ++ (version ed ∷ id ∷ content_of ed t)) in
    rw (
      f.four,
      f.long,
      f.versions,
      f.edition,
      f.table,
      f.rest,
      sym (content_before ed n (layout id) (content_of ed t)) ∙ content_again ed n x g.0 (omega arith),
      body_form_of ed t,
      le-leb (length (body_of ed t)) 4096 (omega (arith, body_short ed t)),
    )

-- ---- a ledger that is read

cut : (l : List ℕ) → 4 ≤ length l → l ≡ take 2 l ++ (get_or l 2 0 ∷ get_or l 3 0 ∷ drop 4 l)
cut l h = rw (← drop_more l 3 0 (omega arith), ← drop_more l 2 0 (omega arith)) (sym (take-append-drop 2 l))

-- it is the ledger, in its edition, of its id and of the body that comes back, which were accepted before
pub read_accepted : (l : List ℕ) (t : Table) → Below 256 l → ledger_read l ≡ got t [] → AcceptedBefore (id_of l) (body_of (edition_of l) t) t × (ledger_of (edition_of l) (id_of l) t ≡ l)
unfolding ledger_of
read_accepted l t h e =
    let ed : Edition = edition_of l in
    let p = passed l e in
    let g = content_good ed (length l) (layout (id_of l)) (drop 4 l) t (fine_layout (id_of l)) (below_drop 256 4 l h) p.content in
    let h4 : 4 ≤ length l = p.four in
    let hv : value 256 (take 2 l) ≡ length l - 2 = p.long in
    let k : kept_of t ≡ body_of ed t = ap kept_of (sym g.same) ∙ kept_form_of ed t in
    let lc : length (content_of ed t) + 2 ≡ value 256 (take 2 l) = ap (λ (x : List ℕ). length x + 2) g.back ∙ omega (arith, length-drop 4 l) in (
      rw k at (good_accepted (layout_before (layout (id_of l))) (id_of l) (fine_then (id_of l)) (digit_in 256 l 3 (omega arith) h) g.good (rw k p.size)),
      rw (lc, digits_take 256 2 l h (omega arith), g.back, p.edition) (sym (cut l h4)),
    )

-- ---- the demand

-- two accepted pairs share a ledger of an edition exactly when they have the same id and the same body of that edition
pub same_ledger : {id id' : ℕ} {b b' : List ℕ} {t t' : Table} (ed : Edition) → AcceptedBefore id b t → AcceptedBefore id' b' t'
    → (ledger_of ed id t ≡ ledger_of ed id' t') ↔ ((id ≡ id') × (body_of ed t ≡ body_of ed t'))
same_ledger {id} {id'} {t = t} {t' = t'} ed p p' = (one_way, other)
  where
    inj : {u v : Table} → got u [] ≡ got v [] → u ≡ v
    inj e = cc

    one_way : ledger_of ed id t ≡ ledger_of ed id' t' → (id ≡ id') × (body_of ed t ≡ body_of ed t')
    one_way e = (
      sym (id_of_lem ed id t) ∙ ap id_of e ∙ id_of_lem ed id' t',
      sym (kept_form_of ed t) ∙ ap kept_of (inj (sym (ledger_again ed p) ∙ ap ledger_read e ∙ ledger_again ed p')) ∙ kept_form_of ed t',
    )

    other : (id ≡ id') × (body_of ed t ≡ body_of ed t') → ledger_of ed id t ≡ ledger_of ed id' t'
    other e =
        sym (ledger_form_of ed id t)
        ∙ ap₂ (ledger_of ed) e.0 (inj (sym (body_again ed (fine_then id) p).reads ∙ ap₂ (λ (i : ℕ) (b : List ℕ). body_read_as (layout_before (layout i)) b) e.0 e.1 ∙ (body_again ed (fine_then id') p').reads))
        ∙ ledger_form_of ed id' t'

-- "the ledger of a pair", of a table id and an accepted body, in an edition; A: accepted now, or before
pub record IsLedger (A : ℕ → List ℕ → Table → Type 0) (ed : Edition) (l : List ℕ) : Type 0 where
  pub id : ℕ
  pub body : List ℕ
  pub table : Table
  pub accepted : A id body table
  pub is : ledger_of ed id table ≡ l

pub ledger_before : {ed : Edition} {l : List ℕ} → IsLedger Accepted ed l → IsLedger AcceptedBefore ed l
ledger_before r = record { id = r.id; body = r.body; table = r.table; accepted = accepted_before r.accepted; is = r.is }

-- a byte string is read exactly if it is the ledger of some pair in one of the editions
pub ledger_exactly : (l : List ℕ) → Below 256 l → ((t : Table) × (ledger_read l ≡ got t [])) ↔ ((ed : Edition) × IsLedger AcceptedBefore ed l)
ledger_exactly l h = (
  λ r.
      let o = read_accepted l r.0 h r.1 in
      (edition_of l, record { id = id_of l; body = body_of (edition_of l) r.0; table = r.0; accepted = o.0; is = o.1 }),
  λ r. let o = r.1 in (form_of r.0 o.table, ap ledger_read (sym o.is) ∙ ledger_again r.0 o.accepted),
)
