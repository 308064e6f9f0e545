-- The satellites of a ledger gone through one by one: what is laid of each, and what is left.
-- Assumes nothing.
use Prim.Native.Nat.{ℕ, ◌+◌, ◌/◌, ◌≤◌, ◌<◌}
use mathlib.Core.Path.{◌≡◌, refl, sym, ap, ap₂, ◌∙◌, subst}
use mathlib.Core.Bool.{false}
use mathlib.Core.List.{List, [], ◌∷◌, ◌++◌, map, append_assoc, append-nil}
use native.Mathlib.Omega.{arith}
use lib.ListN.{length, take, drop, length-append, length-map}
use lib.Seq.{take_at, drop_at, drop-drop}
use Rattle.format.specs.Digits.{digits, value, Below}
use Rattle.format.specs.Syntax.{before, Field, got}
use Rattle.format.specs.declared.Edition.{Edition}
use Rattle.format.specs.declared.Edition.TheVariants.{Second}
use Rattle.format.specs.Ledger.{ledger}
use Rattle.format.specs.Body.{kept}
use Rattle.format.specs.Tables.{header, position3}
use Rattle.format.specs.Whole.{layout, layout_before, Table, list, laids, ledgers, body_of, kept_of, content_of, version, ledger_of, id_of, edition_of}
use Rattle.format.specs.Redact.{redact, each, satellites, redacted}
use Rattle.format.proofs.DigitLaws.{length_digits, length_bytes, value_digits}
use Rattle.format.proofs.Good
use Rattle.format.proofs.EntryLaws.{AllGood, count_le}
use Rattle.format.proofs.TableLaws.{GoodTable, good_list}
use Rattle.format.proofs.Demand.{fine_then, accepted_good, read_accepted}
use Rattle.format.proofs.RedactLaws.{copy_is}
use Rattle.runs.specs.Appended.{AppendedAt, LedgerLaid}
use Rattle.runs.proofs.Appends.{nothing_yet, also, named}
use Rattle.ledger_reader.specs.Makes.{ReadAs}
use Rattle.ledger_redactor.specs.Places.{covariance_at, behind_at, copy_to}
use Rattle.ledger_redactor.proofs.Satellites.{satellite, header_size}
use Rattle.ledger_redactor.proofs.Standing.{Stands, stands}

-- ---- a ledger of satellites: sixteen bytes, of which the last two are the count, and then the satellites

-- what stands behind the table id in the copy
abbrev pub copied : List ℕ → List (List Field) → List ℕ
copied l es = take 12 (drop 4 l) ++ ledgers (edition_of l) (map redact es)

pub record Whole (l : List ℕ) : Type 0 where
  pub es : List (List Field)
  pub good : AllGood (before position3) es
  pub starts : drop 16 l ≡ ledgers (edition_of l) es
  pub count : value 256 (take 2 (drop 14 l)) ≡ length es
  pub long : 16 ≤ length l
  pub is : redacted l ≡ got (digits 256 2 (length (copied l es) + 2) ++ (version
      (edition_of l) ∷ id_of l ∷ copied l es)) []

-- the bytes in front of the satellites, by the header's and the count's
made : (l : List ℕ) (ed : Edition) (hs : List Field) (es : List (List Field)) → ed ≡ edition_of l
    → Good.Good false false (before header) hs → AllGood (before position3) es → length es < 65536
    → ledger_of ed 4 (list hs es) ≡ l → redacted l ≡ got (ledger_of (edition_of l) (id_of l) (list hs
    (map redact es))) []
    → Whole l
unfolding ledger_of content_of
made l ed hs es c g gs few e q =
    let h : List ℕ = ledger ed hs in
    let n : List ℕ = digits 256 2 (length es) in
    let es' : List ℕ = ledgers ed es in
    let d : List ℕ = digits 256 2 (length (h ++ (n ++ es')) + 2) in
    let f : List ℕ = d ++ (version ed ∷ 4 ∷ []) in
    let ten : length h ≡ 10 = header_size ed g in
    let two : length n ≡ 2 = length_digits 256 2 (length es) in
    let four : length f ≡ 4 = length-append d (version ed ∷ 4 ∷ [])
    ∙ omega (arith, length_digits 256 2 (length (h ++ (n ++ es')) + 2)) in
    let w : l ≡ f ++ (h ++ (n ++ es')) = sym e ∙ sym (append_assoc d (version ed ∷ 4 ∷ []) (h ++ (n ++ es'))) in
    let behind_id : drop 4 l ≡ h ++ (n ++ es') = ap (drop 4) w ∙ drop_at f (h ++ (n ++ es')) 4 four in
    let twelve : length (h ++ n) ≡ 12 = length-append h n ∙ omega (arith, ten, two) in
    let b : drop 4 l ≡ (h ++ n) ++ es' = behind_id ∙ sym (append_assoc h n es') in
    let front : take 12 (drop 4 l) ≡ h ++ n = ap (take 12) b ∙ take_at (h ++ n) es' 12 twelve in
    let r : List ℕ = ledgers ed (map redact es) in
    let k : h ++ (digits 256 2 (length (map redact es)) ++ r) ≡ copied l es =
    ap (λ (m : ℕ). h ++ (digits 256 2 m ++ r)) (length-map es redact) ∙ sym (append_assoc h n r)
    ∙ ap₂ (λ (x : List ℕ) (y : Edition). x ++ ledgers y (map redact es)) (sym front) c in
    let z : ledger_of (edition_of l) (id_of l) (list hs (map redact es)) ≡ digits 256 2 (length (copied l es) + 2) ++
    (version (edition_of l) ∷ id_of l ∷ copied l es) =
    ap (λ (y : Edition). ledger_of y (id_of l) (list hs (map redact es))) (sym c)
    ∙ ap₂ (λ (x : List ℕ) (y : Edition). digits 256 2 (length x + 2) ++ (version y ∷ id_of l ∷ x)) k c in
    record {
      es = es;
      good = gs;
      starts = sym (drop-drop 12 4 l) ∙ ap (drop 12) b ∙ drop_at (h ++ n) es' 12 twelve
          ∙ ap (λ (y : Edition). ledgers y es) c;
      count = ap (λ (x : List ℕ). value 256 (take 2 x)) (sym (drop-drop 10 4 l) ∙ ap (drop 10) behind_id
          ∙ drop_at h (n ++ es') 10 ten)
          ∙ ap (value 256) (take_at n es' 2 two) ∙ value_digits 256 2 (length es) (omega arith) (omega (arith, few));
      long = omega (
        arith,
        ap length w,
        length-append f (h ++ (n ++ es')),
        four,
        length-append h (n ++ es'),
        ten,
        length-append n es',
        two,
      );
      is = q ∙ ap (λ (x : List ℕ). got x []) z;
    }

-- fewer than the count can say, since their body is not over 4096 bytes
few_entries : (hs : List Field) (es : List (List Field)) → AllGood (before position3) es
    → length (kept_of (list hs es)) ≤ 4096 → length es < 65536
unfolding body_of
few_entries hs es gs k =
    let x = fine_then 4 in
    let p : List ℕ = kept hs ++ laids Second es in
    omega (
      arith,
      k,
      count_le (before position3) 32 es x.2 x.3 gs,
      length_bytes (length p / 8) p,
      length-append (kept hs) (laids Second es),
    )

table_whole : (l : List ℕ) (t : Table) → GoodTable (layout_before (layout 4)) t → length (kept_of t) ≤ 4096
    → ledger_of (edition_of l) 4 t ≡ l → redacted l ≡ got (ledger_of (edition_of l) (id_of l) (each redact t)) []
    → Whole l
table_whole l t (good_list {hs} {es} g gs) k e q = made l (edition_of l) hs es refl g gs (few_entries hs es gs k) e q

pub whole : (l : List ℕ) → Below 256 l → ReadAs (edition_of l) 4 l → Whole l
unfolding satellites
whole l b w =
    let a = read_accepted l w.table b w.reads in
    let g = accepted_good (fine_then (id_of l)) a.0 in
    table_whole l w.table (subst (λ (k : ℕ). GoodTable (layout_before (layout k)) w.table) (sym w.named) g.0) (omega
    (arith, g.1, g.2))
    (ap (λ (k : ℕ). ledger_of (edition_of l) k w.table) w.named ∙ a.1)
    (copy_is l w.table w.reads ∙ ap (λ (k : ℕ). got (ledger_of (edition_of l) (id_of l)
    (satellites redact k w.table)) []) (sym w.named))

-- ---- the walk

-- i satellites are laid from `start` on: `left` are those that are not
pub record Walking (l out₀ : List ℕ) (start i place at : ℕ) (out : List ℕ) : Type 0 where
  pub w : Whole l
  pub left : List (List Field)
  pub laid : List ℕ
  pub good : AllGood (before position3) left
  pub there : drop place l ≡ ledgers (edition_of l) left
  pub many : i + length left ≡ length w.es
  pub bytes : ledgers (edition_of l) (map redact w.es) ≡ laid ++ ledgers (edition_of l) (map redact left)
  pub appended : AppendedAt laid start out₀ out at
  pub small : at ≤ place
  pub within : place ≤ length l

pub begins : {l out : List ℕ} {start : ℕ} → Whole l → start ≤ 16 → Walking l out start 0 16 start out
begins w h =
    record {
      w = w;
      left = w.es;
      laid = [];
      good = w.good;
      there = w.starts;
      many = omega arith;
      bytes = refl;
      appended = nothing_yet;
      small = omega arith;
      within = w.long;
    }

-- the next satellite
record Next (l : List ℕ) (place : ℕ) (left : List (List Field)) : Type 0 where
  ts : List Field
  later : List (List Field)
  is : left ≡ ts ∷ later
  good : AllGood (before position3) later
  behind : drop place l ≡ ledger (edition_of l) ts ++ ledgers (edition_of l) later
  stands : Stands l place (ledger (edition_of l) ts) (ledger (edition_of l) (redact ts))

next : (l : List ℕ) (place : ℕ) (left : List (List Field)) → 0 < length left → AllGood (before position3) left
    → drop place l ≡ ledgers (edition_of l) left → Next l place left
unfolding ledgers
next l place [] h g e = absurd (omega arith)
next l place (ts ∷ later) h g e =
    let ed : Edition = edition_of l in
    record {
      ts = ts;
      later = later;
      is = refl;
      good = g.1;
      behind = e;
      stands = stands l place (ledger ed ts) (ledger ed (redact ts)) (ledgers ed later) e (satellite ed g.0);
    }

module _ {l out₀ out : List ℕ} {start i place at : ℕ} (v : Walking l out₀ start i place at out) (h : i < value 256
    (take 2 (drop 14 l))) where
  step : Next l place v.left
  step = let w = v.w in next l place v.left (omega (arith, v.many, w.count)) v.good v.there

  -- all of it is there
  pub there : (covariance_at l place ≤ behind_at l place) × (place + 10 ≤ covariance_at l place)
      × (behind_at l place ≤ length l)
  there =
      let n = step in
      let s = n.stands in
      (omega (arith, s.start, s.behind, s.shorter), omega (arith, s.start, s.ten), omega (arith, s.behind, s.within))

  pub turn : {out' : List ℕ} {end behind at' : ℕ} → end ≡ covariance_at l place → behind ≡ behind_at l place
      → AppendedAt (copy_to l place end) at out out' at' → Walking l out₀ start (i + 1) behind at' out'
  unfolding ledgers
  turn {out'} {end} {behind} {at'} p q x =
      let ed : Edition = edition_of l in
      let n = step in
      let s = n.stands in
      let c : List ℕ = ledger ed (redact n.ts) in
      let copy : copy_to l place end ≡ c = ap (copy_to l place) (p ∙ s.start) ∙ s.copy in
      let y : AppendedAt c at out out' at' = named copy x in
      let e : behind ≡ place + length (ledger ed n.ts) = q ∙ s.behind in
      record {
        w = v.w;
        left = n.later;
        laid = v.laid ++ c;
        good = n.good;
        there = ap (λ (k : ℕ). drop k l) e ∙ sym (drop-drop (length (ledger ed n.ts)) place l)
            ∙ ap (drop (length (ledger ed n.ts))) n.behind
            ∙ drop_at (ledger ed n.ts) (ledgers ed n.later) (length (ledger ed n.ts)) refl;
        many = omega (arith, v.many, ap length n.is);
        bytes = v.bytes ∙ ap (λ (es : List (List Field)). v.laid ++ ledgers ed (map redact es)) n.is
            ∙ sym (append_assoc v.laid c (ledgers ed (map redact n.later)));
        appended = also v.appended y;
        small = omega (arith, y.size, e, v.small, s.shorter);
        within = omega (arith, e, s.within);
      }

-- all are laid
pub ends : {l before out₀ out : List ℕ} {start i place at : ℕ} → Walking l out₀ start i place at out
    → AppendedAt (take 12 (drop 4 l)) 4 before out₀ start → value 256 (take 2 (drop 14 l)) ≤ i
    → LedgerLaid (edition_of l) (id_of l) (redacted l) before out at
unfolding ledgers
ends {l} v a h =
    let w = v.w in
    let ed : Edition = edition_of l in
    let none : v.left ≡ [] = empty v.left (omega (arith, v.many, w.count)) in
    let b : v.laid ≡ ledgers ed (map redact w.es) =
    sym (append-nil v.laid) ∙ ap (λ (es : List (List Field)). v.laid ++ ledgers ed (map redact es)) (sym none)
    ∙ sym v.bytes in
    record {
      content = copied l w.es;
      is = w.is;
      appended = named (ap (λ (x : List ℕ). take 12 (drop 4 l) ++ x) b)
          (also a v.appended);
    }
  where
    empty : (xs : List (List Field)) → length xs ≡ 0 → xs ≡ []
    empty [] k = refl
    empty (x ∷ xs) k = absurd (omega arith)
