-- What the converter's calls return and leave in their buffer.
-- Assumes nothing.
use mathlib.Core.Path.{◌≡◌, refl, sym, ap, ◌∙◌}
use mathlib.Core.Logic.{◌↔◌, ◌⊎◌, inl, inr}
use mathlib.Core.List.{List, [], ◌∷◌}
use Prim.Native.Nat.{ℕ, suc, ◌+◌, ◌*◌, ◌<◌, ◌≤◌}
use native.Mathlib.Omega.{arith}
use lib.ListN.{length}
use borrow.Author.Tests.{le-leb}
use Rattle.std.specs.Prelude.{Err}
use Rattle.format.specs.Digits.{Below}
use Rattle.format.specs.Refusals.{refuse}
use Rattle.format.specs.Syntax.{Field, Parse, got, refused}
use Rattle.format.specs.declared.Refusal.{Refusal}
use Rattle.format.specs.declared.Fault.TheVariants.{BufferTooShort, PlanInexact}
use Rattle.format.specs.declared.Edition.{Edition}
use Rattle.format.specs.declared.Edition.TheVariants.{First, Second}
use Rattle.format.specs.Whole.{Table, entries_of, Accepted, AcceptedBefore, body_of, kept_of, ledger_of, id_of, edition_of, ledger_read}
use Rattle.format.specs.Calls.{number_of, answer, Enough, relaid, restored, Wrote, Gave}
use Rattle.format.specs.Convert.{exact, all_exact, lossless, converted, convert_answer, convert_left, Moved}
use Rattle.format.proofs.ParseLaws.{cond_got, then_got}
use Rattle.format.proofs.TableLaws.{fine_layout, form_of}
use Rattle.format.proofs.Demand.{IsLedger, fine_then, accepted_good, accepted_before, body_again, ledger_all, ledger_length, ledger_again, id_of_lem}
use Rattle.format.proofs.PlanlessLaws.{form_of_2}
use Rattle.format.proofs.CallLaws.{refused_keeps, accepts_result, Given, result_given, accepted_left, answer_err, accepted_wrote, wrote_accepted, gave_read}
use Rattle.format.proofs.LedgerFaults.{AsLedger, ledger_faults}
use Rattle.format.proofs.ConvertLaws.{Lost, fields_converted, read_body_accepted, Outcome, same_fields, loses, outcome, own_faults, accepted_conversion, result_id, result_edition, there_and_back, copied, to_second, to_first, same_body, result_stored, result_now, result_length}

-- ---- an accepted call and the result

-- where the test of entries was passed, what comes is the result
exact_got : {xs rest : List ℕ} (i : ℕ) (es : List (List Field)) (p : Parse (List ℕ)) → all_exact i es p ≡ got xs rest
    → p ≡ got xs rest
unfolding all_exact
exact_got i [] p e = e
exact_got i (ts ∷ es) p e = exact_got (suc i) es p (cond_got (exact ts) (all_exact (suc i) es p) PlanInexact i 0 e).1

lossless_got : {xs rest : List ℕ} (ed : Edition) (es : List (List Field)) (p : Parse (List ℕ))
    → lossless ed es p ≡ got xs rest → p ≡ got xs rest
lossless_got First es p e = exact_got 0 es p e
lossless_got Second es p e = e

-- a result has nothing over
converted_all : {xs rest : List ℕ} (ed : Edition) (l : List ℕ) → converted ed l ≡ got xs rest → rest ≡ []
unfolding converted
converted_all {xs} {rest} ed l e =
    let o = then_got (ledger_read l) (λ t r. lossless ed (entries_of t) (got (ledger_of ed (id_of l) t) [])) e in
    let p : Parse (List ℕ) = got (ledger_of ed (id_of l) o.0) [] in
    let q : got (ledger_of ed (id_of l) o.0) [] ≡ got xs rest = lossless_got ed (entries_of o.0) p o.3 in
    cc

-- room for the result: it is left at the buffer's start
pub converted_moved : {ed : Edition} {l out l' rest : List ℕ} → converted ed l ≡ got l' rest → length l' ≤ length out
    → Moved ed l out l'
unfolding convert_answer convert_left
converted_moved {ed} {l} {out} {l'} {rest} e h =
    let g = result_given (id_of l) out l' rest (converted ed l) e h in
    record { accepts = g.accepts; result = g.result }

-- what is left there is the result, and there was room
pub moved_converted : {ed : Edition} {l out l' : List ℕ} → Moved ed l out l'
    → (converted ed l ≡ got l' []) × (length l' ≤ length out)
unfolding convert_answer convert_left
moved_converted {ed} {l} {out} m =
    let o = accepted_left (id_of l) out (converted ed l) m.accepts m.result in
    (rw (converted_all ed l o.1) at o.1, o.2)

-- the table id and the length that an accepted call names, the result, and behind it the old values
pub moved_given : {ed : Edition} {l out l' : List ℕ} → Moved ed l out l'
    → Given (id_of l) out l' (convert_answer ed l (length out)) (convert_left ed l out)
unfolding convert_answer convert_left
moved_given {ed} {l} {out} {l'} m =
    let o = moved_converted m in
    result_given (id_of l) out l' [] (converted ed l) o.0 o.1

-- after a refusal the buffer is as it was
pub convert_keeps : (ed : Edition) (l out : List ℕ) → (number_of (convert_answer ed l (length out)) ≡ 0 → ⊥)
    → convert_left ed l out ≡ out
unfolding convert_answer convert_left
convert_keeps ed l out h = refused_keeps (id_of l) out (converted ed l) h

-- ---- what a caller is told

-- "There and back gives the first bytes again, from either side, whenever the conversion is accepted."
pub moved_back : {ed : Edition} {l out l' : List ℕ} → Below 256 l → Moved ed l out l' → (out' : List ℕ)
    → length l ≤ length out' → Moved (edition_of l) l' out' l
moved_back {ed} {l} h m out' k = converted_moved (there_and_back ed l h (moved_converted m).0) k

-- "A ledger already in the wanted edition is copied."
pub moved_copy : {l out b : List ℕ} {id : ℕ} → Below 256 l → Gave l out id b → (out' : List ℕ)
    → length l ≤ length out' → Moved (edition_of l) l out' l
moved_copy {l} h g out' k = let o = gave_read g in converted_moved (copied l o.0 h o.1) k

-- the result is a ledger of the wanted edition, under the same id, of a body accepted before
pub moved_ledger : {ed : Edition} {l out l' : List ℕ} → Below 256 l → Moved ed l out l'
    → (edition_of l' ≡ ed) × (id_of l' ≡ id_of l) × IsLedger AcceptedBefore ed l'
moved_ledger {ed} {l} h m =
    let e = (moved_converted m).0 in
    let r = accepted_conversion ed l h e in
    (result_edition r, result_id r, result_stored ed l h e)

-- and of a body accepted now, if the first ledger is, of either edition
pub moved_ledger_now : {ed ed' : Edition} {l out l' : List ℕ} → Below 256 l → Moved ed l out l'
    → IsLedger Accepted ed' l → IsLedger Accepted ed l'
moved_ledger_now {ed} {ed'} {l} h m w = result_now ed ed' l h w (moved_converted m).0

-- the body that comes back of it is the same
pub moved_body : {ed : Edition} {l out l' : List ℕ} → Below 256 l → Moved ed l out l' → restored l' ≡ restored l
moved_body {ed} {l} h m = same_body ed l h (moved_converted m).0

-- ---- which ledgers are taken

-- to edition 2: exactly each one that is read, given room
pub to_second_exactly : (l : List ℕ) (room : ℕ)
    → (number_of (convert_answer Second l room) ≡ 0)
    ↔ ((t : Table) × (ledger_read l ≡ got t []) × (length (ledger_of Second (id_of l) t) ≤ room))
unfolding convert_answer converted answer number_of
to_second_exactly l room = (there, back)
  where
    there : number_of (answer (id_of l) room (converted Second l)) ≡ 0
        → (t : Table) × (ledger_read l ≡ got t []) × (length (ledger_of Second (id_of l) t) ≤ room)
    there e =
        let o = accepts_result (id_of l) room (converted Second l) e in
        let q = then_got (ledger_read l) (λ t r. got (ledger_of Second (id_of l) t) []) o.2 in
        let same : got (ledger_of Second (id_of l) q.0) [] ≡ got o.0 o.1 = q.3 in
        let z : o.0 ≡ ledger_of Second (id_of l) q.0 = cc in
        (q.0, rw (ledger_all l q.2) at q.2, rw z at o.3)

    back : (t : Table) × (ledger_read l ≡ got t []) × (length (ledger_of Second (id_of l) t) ≤ room)
        → number_of (answer (id_of l) room (converted Second l)) ≡ 0
    back r = rw (to_second l r.0 r.1, le-leb (length (ledger_of Second (id_of l) r.0)) room r.2)

-- to edition 1, "where nothing is lost by it": exactly each one whose kept body is the plain one, given room
pub to_first_exactly : (l : List ℕ) (room : ℕ) → Below 256 l
    → (number_of (convert_answer First l room) ≡ 0)
    ↔ ((t : Table) × (ledger_read l ≡ got t []) × (kept_of t ≡ body_of First t)
    × (length (ledger_of First (id_of l) t) ≤ room))
unfolding convert_answer answer number_of
to_first_exactly l room h = (there, back)
  where
    there : number_of (answer (id_of l) room (converted First l)) ≡ 0
        → (t : Table) × (ledger_read l ≡ got t []) × (kept_of t ≡ body_of First t)
        × (length (ledger_of First (id_of l) t) ≤ room)
    there e =
        let o = accepts_result (id_of l) room (converted First l) e in
        let r = accepted_conversion First l h o.2 in
        let k = (to_first l r.table h r.reads).0 (fields_converted First l r.table r.reads r.same) in
        (r.table, r.reads, k, rw (r.is) at o.3)

    back : (t : Table) × (ledger_read l ≡ got t []) × (kept_of t ≡ body_of First t)
        × (length (ledger_of First (id_of l) t) ≤ room)
        → number_of (answer (id_of l) room (converted First l)) ≡ 0
    back r = rw ((to_first l r.0 h r.1).1 r.2, le-leb (length (ledger_of First (id_of l) r.0)) room r.3)

-- the same by the body: what edition 2's writer left of it goes to edition 1, given room, exactly if the body's plain
-- body and its kept body are the same
pub to_first_same : {id : ℕ} {b out l : List ℕ} → id < 256 → Below 256 b → Below 256 l → Wrote Second id b out l
    → (room : ℕ) → Enough room (converted First l)
    → (number_of (convert_answer First l room) ≡ 0) ↔ (relaid First id b ≡ relaid Second id b)
unfolding relaid
to_first_same {id} {b} {out} {l} hi hb hl w room h = (there, back)
  where
    o : (t : Table) × Accepted id b t × (ledger_of Second id t ≡ l) × (length l ≤ length out)
    o = wrote_accepted hi hb w

    read : ledger_read l ≡ got o.0 []
    read =
        ap ledger_read (sym o.2) ∙ ledger_again Second (accepted_before o.1)
        ∙ ap (λ (u : Table). got u []) (form_of_2 o.0)

    there : number_of (convert_answer First l room) ≡ 0 → relaid First id b ≡ relaid Second id b
    there a =
        let r = (to_first_exactly l room hl).0 a in
        let z : got r.0 [] ≡ got o.0 [] = sym r.1 ∙ read in
        let y : r.0 ≡ o.0 = cc in
        rw (o.1.reads) (ap (λ (x : List ℕ). got x []) (sym (rw y at r.2)))

    back : relaid First id b ≡ relaid Second id b → number_of (convert_answer First l room) ≡ 0
    back q =
        let z : got (body_of First o.0) [] ≡ got (kept_of o.0) [] = rw (o.1.reads) at q in
        let k : kept_of o.0 ≡ body_of First o.0 = cc in
        let n : length (ledger_of First (id_of l) o.0) ≤ room = rw ((to_first l o.0 hl read).1 k) at h in
        (to_first_exactly l room hl).1 (o.0, read, k, n)

-- "with exact plan lengths and no filler": of what edition 1's writer left of a body, the result is what edition 2's
-- writer leaves of its plain body
pub to_second_plain : {id : ℕ} {b out out' l l' : List ℕ} → Wrote First id b out l → Moved Second l out' l'
    → id < 256 → Below 256 b
    → (p : List ℕ) × (relaid First id b ≡ got p [])
    × ((out'' : List ℕ) → length l' ≤ length out'' → Wrote Second id p out'' l')
unfolding relaid
to_second_plain {id} {b} {l = l} {l' = l'} w m hi hb =
    let o = wrote_accepted hi hb w in
    let t : Table = form_of First o.0 in
    let e : ledger_read l ≡ got t [] = ap ledger_read (sym o.2) ∙ ledger_again First (accepted_before o.1) in
    let i : id_of l ≡ id = ap id_of (sym o.2) ∙ id_of_lem First id o.0 in
    let s : got (ledger_of Second (id_of l) t) [] ≡ got l' [] = sym (to_second l t e) ∙ (moved_converted m).0 in
    let z : ledger_of Second (id_of l) t ≡ l' = cc in
    let y : ledger_of Second id t ≡ l' = ap (λ (k : ℕ). ledger_of Second k t) (sym i) ∙ z in
    let a = body_again First (fine_layout id) o.1 in
    (body_of First o.0, rw (o.1.reads), λ out'' k. rw y at (accepted_wrote Second out'' a (rw y k)))

-- ---- the bound

-- as any ledger of that body
pub moved_length : {ed : Edition} {l out l' : List ℕ} → Below 256 l → Moved ed l out l' → (b : List ℕ)
    → restored l ≡ got b [] → length l' ≤ 6 + 2 * length b
moved_length {ed} {l} h m b e = result_length ed l h (moved_converted m).0 e

-- since no body that comes back is over 4096 bytes
pub moved_few : (ed : Edition) (l : List ℕ) {l' rest : List ℕ} → Below 256 l → converted ed l ≡ got l' rest
    → length l' ≤ 8198
moved_few ed l h e =
    let r = accepted_conversion ed l h e in
    let a = read_body_accepted l r.table h r.reads in
    rw (r.is) (omega (arith, ledger_length ed (fine_then (id_of l)) a, accepted_good (fine_then (id_of l)) a))

-- ---- 29

-- what a refusal by 29 says: a ledger of plans that is read, of edition 2, is to go to edition 1, and the index is that
-- of its first plan that is not exact
pub record Inexact (ed : Edition) (l : List ℕ) (f : Refusal) : Type 0 where
  pub wanted : ed ≡ First
  pub given : edition_of l ≡ Second
  pub plans : id_of l ≡ 3
  pub table : Table
  pub reads : ledger_read l ≡ got table []
  pub have_is : f.have ≡ 0
  pub index : Lost (entries_of table) f.need

pub refused_lost : {ed : Edition} {l : List ℕ} (room : ℕ) {f : Refusal} → Below 256 l
    → convert_answer ed l room ≡ Err f → f.fault ≡ PlanInexact → Inexact ed l f
unfolding convert_answer
refused_lost {ed} {l} room {f} h e x = go (answer_err (id_of l) room (converted ed l) e)
  where
    by_outcome : (t : Table) → ledger_read l ≡ got t [] → Outcome ed l t
        → converted ed l ≡ refused f.fault f.need f.have → Inexact ed l f
    by_outcome t q (same_fields _ c) r =
        let z : got (ledger_of ed (id_of l) t) [] ≡ refused f.fault f.need f.have = sym c ∙ r in
        absurd cc
    by_outcome t q (loses i a b c d s) r =
        let z : refused PlanInexact i 0 ≡ refused f.fault f.need f.have = sym s ∙ r in
        let y : i ≡ f.need = cc in
        let w : f.have ≡ 0 = cc in
        record { wanted = a; given = b; plans = c; table = t; reads = q; have_is = w; index = rw y at d }

    by_reading : (p : Parse Table) → ledger_read l ≡ p → AsLedger p → converted ed l ≡ refused f.fault f.need f.have
        → Inexact ed l f
    by_reading (got t rest) q k r =
        let s : ledger_read l ≡ got t [] = rw (ledger_all l q) at q in
        by_outcome t s (outcome ed l t h s) r
    by_reading (refused a b c) q k r =
        let z : refused a b c ≡ refused f.fault f.need f.have = sym (own_faults ed l a b c q) ∙ r in
        let y : a ≡ PlanInexact = cc in
        absurd (omega (arith, rw y at k))

    go : (converted ed l ≡ refused f.fault f.need f.have)
        ⊎ ((xs : List ℕ) × (rest : List ℕ) × (converted ed l ≡ got xs rest)
        × (f ≡ refuse BufferTooShort (length xs) room)) → Inexact ed l f
    go (inl r) = by_reading (ledger_read l) refl (ledger_faults l) r
    go (inr r) =
        let z : BufferTooShort ≡ PlanInexact = sym (ap (λ (g : Refusal). g.fault) r.3) ∙ x in
        absurd cc
