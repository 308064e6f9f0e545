-- The content of a ledger under each table id, and the whole ledger.
-- Assumes nothing.
use Prim.Native.Nat.{ℕ, zero, suc, ◌+◌, ◌-◌, ◌%◌, ◌≤◌, ◌<◌}
use mathlib.Core.Path.{◌≡◌, refl, sym, ap, ◌∙◌}
use mathlib.Core.List.{List, [], ◌∷◌, ◌++◌, append_assoc}
use native.Mathlib.Nat.{div-one, mod-eq_of_lt}
use native.Mathlib.Omega.{arith}
use Rattle.std.proofs.Common.{Result, Ok, Err}
use lib.Dec.{leb}
use lib.ListN.{length, drop, length-append}
use borrow.Author.Tests.{le-leb, lt-leb, leb-true}
use borrow.Rule.Slice.PartMut.{mid_of, put_mid, mid_len}
use Rattle.format.specs.Digits.{digits, bits_of, splice}
use Rattle.format.specs.Refusals.{refuse}
use Rattle.format.specs.Syntax.{Syntax, end, Field, Parse, got, refused, and_then}
use Rattle.format.specs.declared.Edition.{Edition}
use Rattle.format.specs.Tables.{association, header}
use Rattle.format.specs.Ledger.{ledger}
use Rattle.format.specs.Whole.{opaque, layout, Table, one, list, as_it_is, read_as, body_read_as, body_read, content_of, version, ledger_of}
use Rattle.format.specs.Lists.{list_id, head_syntax}
use Rattle.format.specs.declared.tables.ListTable.{ListTable}
use Rattle.format.proofs.NamedLaws.{layout_list}
use Rattle.format.specs.Calls.{answer, left, filed, Fitted, write_answer, write_left}
use Rattle.format.proofs.CallLaws.{answer_done, answer_refused}
use Rattle.format.specs.declared.Edition.TheVariants.{First, Second}
use Rattle.format.specs.declared.Output.{Output}
use Rattle.format.specs.declared.Refusal.{Refusal}
use Rattle.format.specs.declared.Fault.{Fault}
use Rattle.format.specs.declared.Fault.TheVariants.{BodyTooLong}
use Rattle.format.proofs.DigitLaws.{length_digits}
use Rattle.format.proofs.ParseLaws.{cond_got, got_not_refused}
use Rattle.format.proofs.FineTables.{fine_header, least_header}
use Rattle.format.proofs.ReadLaws.{place_at}
use Rattle.format.proofs.WalkLaws as walk-laws
use Rattle.format.proofs.TableLaws.{read_all}
use Rattle.bits.proofs.Splices.{splice_splice, part_splice}
use Rattle.runs.specs.Stored.{stored}
use Rattle.write_runs.specs.declared.step.Step.{Step}
use Rattle.runs.proofs.Stores.{stored_fits}
use Rattle.write_runs.specs.Went.{outside, Went, Ran}
use Rattle.ledger_writer.specs.Listed.{listing, Listed}
use Rattle.ledger_writer.specs.Written.{Filled, Content, size_in, size_answer}
use Rattle.ledger_writer.proofs.Listing.{went_got}

-- ---- the content, by table id

-- ids 5 and up: the body as it is
pub layout_opaque : (id : ℕ) → 4 < id → layout id ≡ opaque
layout_opaque zero h = absurd (omega arith)
layout_opaque (suc zero) h = absurd (omega arith)
layout_opaque (suc (suc zero)) h = absurd (omega arith)
layout_opaque (suc (suc (suc zero))) h = absurd (omega arith)
layout_opaque (suc (suc (suc (suc zero)))) h = absurd (omega arith)
layout_opaque (suc (suc (suc (suc (suc n))))) h = refl

pub as_is : {ed : Edition} {id : ℕ} {body out out' : List ℕ} → layout id ≡ opaque → out' ≡ stored out 0 body → Filled ed body id out (length body) out'
unfolding read_as content_of
as_is {ed} {id} {body} {out} h b = record { t = as_it_is body; reads = rw h; size = refl; bytes = λ r. b ∙ stored_fits out 0 body (omega arith); small = omega arith }

-- id 2: one set of fields
pub once : {ed : Edition} {id : ℕ} {body out out' : List ℕ} {r : Result Step Refusal} → id ≡ 2 → Ran body (outside ed) association 0 0 out (λ _. end) out' r → Content ed body id out out' r
unfolding read_as content_of
once {body = body} {r = Ok v} q x =
    let w = x.to.1 in
    rw q (record {
      to = record {
        t = one w.ts;
        reads = ap (λ (p : Parse (List Field)). and_then p (λ ts rest. got (one ts) [])) (went_got w);
        size = omega (arith, w.size);
        bytes = w.bytes;
        small = omega (arith, w.slack, w.within);
      };
    })
once {r = Err f} q x = rw q (record { to = record { reads = ap (λ (p : Parse (List Field)). and_then p (λ ts rest. got (one ts) [])) x.to.reads } })

-- a list: a head, and entries behind it
module _ (table : ListTable) where
  abbrev id : ℕ
  id = list_id table

  abbrev head : Syntax
  head = head_syntax id

  module _ {ed : Edition} {body : List ℕ} where
    pub listed : {out out₁ out₂ : List ℕ} {a p : ℕ} {r : Result Step Refusal} → Went body (outside ed) head 0 0 out end a p out₁ → Listed ed body id a p out₁ out₂ r → Content ed body id out out₂ r
    unfolding read_as content_of
    listed {out} {out₁} {p = p} {r = Ok v} w x =
        let y = x.to in
        let ll = length-append (ledger ed w.ts) (listing ed y.es) in
        let z = w.size in
        let z₁ = y.size in
        record {
          to = record {
            t = list w.ts y.es;
            reads = rw (layout_list table, went_got w, y.reads);
            size = omega arith;
            bytes = λ h. y.bytes (omega (arith, w.long)) ∙ ap (λ (m : List ℕ). splice m p (listing ed y.es)) (w.bytes (omega arith))
                ∙ splice_splice out 0 (ledger ed w.ts) (listing ed y.es) p w.size (omega arith);
            small = y.behind;
          };
        }
    listed {r = Err f} w x = record { to = record { reads = rw (layout_list table, went_got w, x.to.reads) } }

    pub unheaded : {out out₂ : List ℕ} {f : Refusal} → Ran body (outside ed) head 0 0 out (λ _. end) out₂ (Err f) → Content ed body id out out₂ (Err f)
    unfolding read_as
    unheaded x = record { to = record { reads = rw (layout_list table, x.to.reads) } }

-- the header ends on a byte
pub header_ends : {ed : Edition} {body out out' : List ℕ} {a p : ℕ} → Went body (outside ed) header 0 0 out end a p out' → a % 8 ≡ 0
header_ends {body = body} {a = a} w =
    let x = walk-laws.ended 64 header fine_header least_header (omega arith) body 0 w.ts (drop a (bits_of body)) (omega arith) refl (went_got w) in
    omega (arith, x.byte, place_at body a w.within)

-- ---- the whole ledger

module _ (ed : Edition) (id : ℕ) (body : List ℕ) where
  filed_over : 4096 < length body → filed ed id body ≡ refused BodyTooLong (length body) 4096
  unfolding filed body_read_as
  filed_over h = rw (lt-leb (length body) 4096 h)

  filed_got : (t : Table) → length body ≤ 4096 → read_as (layout id) body ≡ got t [] → filed ed id body ≡ got (ledger_of ed id t) []
  unfolding filed body_read_as
  filed_got t h e = rw (le-leb (length body) 4096 h, e)

  filed_refused : (x : Fault) (y z : ℕ) → length body ≤ 4096 → read_as (layout id) body ≡ refused x y z → filed ed id body ≡ refused x y z
  unfolding filed body_read_as
  filed_refused x y z h e = rw (le-leb (length body) 4096 h, e)

length_ledger_of : (ed : Edition) (id : ℕ) (t : Table) → length (ledger_of ed id t) ≡ length (content_of ed t) + 4
unfolding ledger_of
length_ledger_of ed id t = length-append (digits 256 2 (length (content_of ed t) + 2)) (version ed ∷ id ∷ content_of ed t) ∙ omega (arith, length_digits 256 2 (length (content_of ed t) + 2))

-- ---- how long it is

pub size_over : (ed : Edition) (id : ℕ) (body : List ℕ) → 4096 < length body → Err (refuse BodyTooLong (length body) 4096) ≡ size_answer ed id body
unfolding size_answer size_in
size_over ed id body h = rw (filed_over ed id body h)

pub size_no : {ed : Edition} {id : ℕ} {body part part' : List ℕ} {f : Refusal} → length body ≤ 4096 → Content ed body id part part' (Err f) → Err f ≡ size_answer ed id body
unfolding size_answer size_in
size_no {ed} {id} {body} {f = f} h x = rw (filed_refused ed id body f.fault f.need f.have h x.to.reads)

pub size_yes : {ed : Edition} {id p : ℕ} {body part part' : List ℕ} → length body ≤ 4096 → Filled ed body id part p part' → Ok (p + 4) ≡ size_answer ed id body
unfolding size_answer size_in
size_yes {ed} {id} {p} {body} h x =
    let n : length (ledger_of ed id x.t) ≡ p + 4 = length_ledger_of ed id x.t ∙ ap (λ (k : ℕ). k + 4) (sym x.size) in
    rw (filed_got ed id body x.t h x.reads, n)

-- ---- what the writer answers and leaves

abbrev Says : Edition → ℕ → List ℕ → List ℕ → Result Output Refusal → List ℕ → Type 0
Says ed id body out w out' = (w ≡ write_answer ed id body (length out)) × (out' ≡ write_left ed id body out)

-- a body that is refused
pub says_no : (ed : Edition) (id : ℕ) (body out : List ℕ) {f : Refusal} → Err f ≡ size_answer ed id body → Says ed id body out (Err f) out
unfolding write_answer write_left size_answer answer left size_in
says_no ed id body out {f} e = go (filed ed id body) e
  where
    go : (p : Parse (List ℕ)) → Err f ≡ size_in p → (Err f ≡ answer id (length out) p) × (out ≡ left out p)
    go (got xs rest) e = absurd (cc)
    go (refused x y z) e = let g : f ≡ refuse x y z = cc in (ap Err g, refl)

-- what is known of a body that has a ledger
pub record Known (ed : Edition) (id : ℕ) (body : List ℕ) (need : ℕ) : Type 0 where
  pub t : Table
  pub short : length body ≤ 4096
  pub reads : read_as (layout id) body ≡ got t []
  pub file : filed ed id body ≡ got (ledger_of ed id t) []
  pub size : length (ledger_of ed id t) ≡ need
  pub content : need ≡ length (content_of ed t) + 4

pub known : {ed : Edition} {id : ℕ} {body : List ℕ} {need : ℕ} → Ok need ≡ size_answer ed id body → Known ed id body need
unfolding size_answer filed body_read_as size_in
known {ed} {id} {body} {need} e = go (body_read id body) refl e
  where
    go : (p : Parse Table) → body_read id body ≡ p → Ok need ≡ size_in (and_then p (λ t rest. got (ledger_of ed id t) [])) → Known ed id body need
    go (refused x y z) b e = absurd (cc)
    go (got t rest) b e =
        let c = cond_got (leb (length body) 4096) _ _ _ _ b in
        let h : length body ≤ 4096 = leb-true (length body) 4096 c.0 in
        let r : read_as (layout id) body ≡ got t [] = c.1 ∙ ap (λ (k : List ℕ). got t k) (read_all (layout id) body c.1) in
        let n : need ≡ length (ledger_of ed id t) = cc in
        record { t = t; short = h; reads = r; file = filed_got ed id body t h r; size = sym n; content = n ∙ length_ledger_of ed id t }

-- what `fitted` answers of it is the answer; where that is a refusal the buffer stays as it is, and else there is room
module _ {ed : Edition} {id need : ℕ} {body : List ℕ} (out : List ℕ) (k : Known ed id body need) where
  says : {r : Result Output Refusal} → Fitted id need (length out) r → r ≡ write_answer ed id body (length out)
  unfolding write_answer
  says f = f.is (ledger_of ed id k.t) [] (sym k.size) ∙ rw k.file

  pub says_short : {f : Refusal} → Fitted id need (length out) (Err f) → Says ed id body out (Err f) out
  unfolding write_answer write_left
  says_short h = (says h, sym (answer_refused id out (filed ed id body) (sym (says h))))

  pub room_for : {a : Output} → Fitted id need (length out) (Ok a) → (4 ≤ need) × (need ≤ length out)
  room_for h =
      let o = answer_done id (length out) (got (ledger_of ed id k.t) []) (sym (h.is (ledger_of ed id k.t) [] (sym k.size))) in
      let e : got (ledger_of ed id k.t) [] ≡ got o.0 o.1 = o.2 in
      let z : ledger_of ed id k.t ≡ o.0 = cc in
      (omega (arith, k.content), omega (arith, o.3, o.4, k.size, ap length z))

-- what a second going through the body leaves is the same content
again : (ed : Edition) (body out out' : List ℕ) (id : ℕ) (t : Table) (r : Result Step Refusal) → read_as (layout id) body ≡ got t [] → Content ed body id out out' r → length (content_of ed t) ≤ length out
    → out' ≡ splice out 0 (content_of ed t)
again ed body out out' id t (Ok v) e x h =
    let y = x.to in
    let q : got y.t [] ≡ got t [] = sym y.reads ∙ e in
    let z : y.t ≡ t = cc in
    y.bytes (omega (arith, y.size, ap (λ (g : Table). length (content_of ed g)) z)) ∙ ap (λ (g : Table). splice out 0 (content_of ed g)) z
again ed body out out' id t (Err f) e x h = absurd (got_not_refused (sym e ∙ x.to.reads))

byte : (v : ℕ) → v < 256 → digits 256 1 v ≡ v ∷ []
unfolding digits
byte v h = rw (div-one v, mod-eq_of_lt h)

-- the four bytes in front of the content
front : (v id n : ℕ) (out m₁ m₂ m₃ : List ℕ) → v < 256 → id < 256 → 4 ≤ length out → m₁ ≡ splice out 0 (digits 256 2 n) → m₂ ≡ splice m₁ 2 (digits 256 1 v) → m₃ ≡ splice m₂ 3 (digits 256 1 id)
    → m₃ ≡ splice out 0 (digits 256 2 n ++ (v ∷ id ∷ []))
front v id n out m₁ m₂ m₃ hv h l e₁ e₂ e₃ =
    let d : List ℕ = digits 256 2 n in
    let ld : length d ≡ 2 = length_digits 256 2 n in
    let f₂ : m₂ ≡ splice out 0 (d ++ (v ∷ [])) =
    e₂ ∙ rw (byte v hv, e₁) (splice_splice out 0 d (v ∷ []) 2 (omega arith) (omega arith)) in
    let l₂ = length-append d (v ∷ []) in
    e₃ ∙ rw (byte id h, f₂) (splice_splice out 0 (d ++ (v ∷ [])) (id ∷ []) 3 (omega arith) (omega arith)) ∙ ap (splice out 0) (append_assoc d (v ∷ []) (id ∷ []))

version_small : (ed : Edition) → version ed < 256
version_small First = omega arith
version_small Second = omega arith

-- room for it: the front, and the content behind it
pub says_yes : {ed : Edition} {v id need : ℕ} {body m₁ m₂ m₃ part : List ℕ} {r : Result Step Refusal} {a : Output} (out : List ℕ) → v ≡ version ed → id < 256 → (k : Known ed id body need) → Fitted id need (length out) (Ok a)
    → m₁ ≡ splice out 0 (digits 256 2 (need - 2)) → m₂ ≡ splice m₁ 2 (digits 256 1 v) → m₃ ≡ splice m₂ 3 (digits 256 1 id) → length m₃ ≡ length out
    → Content ed body id (mid_of 4 (length m₃ - 4) m₃) part r → Says ed id body out (Ok a) (put_mid 4 (length m₃ - 4) m₃ part)
unfolding write_left left ledger_of
says_yes {ed} {v} {id} {need} {body} {m₁} {m₂} {m₃} {part} {r} out vs hi k f e₁ e₂ e₃ long y =
    let l = (room_for out k f).1 in
    let hv : v < 256 = omega (arith, vs, version_small ed) in
    let c : List ℕ = content_of ed k.t in
    let z = k.content in
    let d : List ℕ = digits 256 2 (need - 2) in
    let head : List ℕ = d ++ (v ∷ id ∷ []) in
    let lh : length head ≡ 4 = length-append d (v ∷ id ∷ []) ∙ omega (arith, length_digits 256 2 (need - 2)) in
    let mid : length (mid_of 4 (length m₃ - 4) m₃) ≡ length m₃ - 4 = mid_len 4 (length m₃) m₃ (omega arith) in
    let n : need - 2 ≡ length c + 2 = omega arith in
    let all : put_mid 4 (length m₃ - 4) m₃ part ≡ splice out 0 (ledger_of ed id k.t) =
    part_splice m₃ part c 4 (omega arith) (again ed body (mid_of 4 (length m₃ - 4) m₃) part id k.t r k.reads y (omega arith))
    ∙ ap (λ (m : List ℕ). splice m 4 c) (front v id (need - 2) out m₁ m₂ m₃ hv hi (omega arith) e₁ e₂ e₃)
    ∙ splice_splice out 0 head c 4 (omega arith) (omega arith)
    ∙ ap (splice out 0) (append_assoc d (v ∷ id ∷ []) c ∙ ap (λ (x : ℕ). digits 256 2 x ++ (v ∷ id ∷ c)) n ∙ ap (λ (x : ℕ). digits 256 2 (length c + 2) ++ (x ∷ id ∷ c)) vs) in
    (says out k f, rw (k.file, k.size, le-leb need (length out) l) all)
