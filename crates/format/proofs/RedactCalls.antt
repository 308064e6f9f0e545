-- S-31: what the copier's calls return and leave in their buffer.
-- Assumes nothing.
use mathlib.Core.Path.{◌≡◌, refl, sym, ap, ap₂, ◌∙◌}
use mathlib.Core.Logic.{◌↔◌, ◌⊎◌, inl, inr}
use mathlib.Core.List.{List, []}
use Prim.Native.Nat.{ℕ, ◌+◌, ◌*◌, ◌≤◌}
use native.Mathlib.Omega.{arith}
use lib.ListN.{length}
use borrow.Author.Tests.{le-leb}
use Rattle.std.specs.Prelude.{All, Err}
use Rattle.format.specs.Digits.{Below}
use Rattle.format.specs.Refusals.{refuse}
use Rattle.format.specs.Syntax.{Field, Parse, got, refused}
use Rattle.format.specs.declared.Refusal.{Refusal}
use Rattle.format.specs.declared.Fault.TheVariants.{BufferTooShort}
use Rattle.format.specs.declared.Edition.{Edition}
use Rattle.format.specs.Whole.{Table, entries_of, Accepted, AcceptedBefore, body_of, ledger_of, id_of, edition_of, ledger_read}
use Rattle.format.specs.Calls.{number_of, answer, left, Enough, restored, Gave}
use Rattle.format.specs.Redact.{Clean, redact, satellites, redacted, redact_answer, redact_left, Copied, SameOthers}
use Rattle.format.proofs.ParseLaws.{got_not_refused, then_got}
use Rattle.format.proofs.Demand.{IsLedger, fine_then, accepted_good, ledger_all, ledger_length, read_accepted}
use Rattle.format.proofs.CallLaws.{refused_keeps, accepts_result, Given, result_given, accepted_left, answer_err, read_gave, gave_read}
use Rattle.format.proofs.ConvertLaws.{read_body_accepted}
use Rattle.format.proofs.RedactLaws.{copy_is, redact_faults, unaltered, accepted_copy, copy_stored, copy_now, copy_length, copy_of_copy, copy_others, copy_clean, same_copies, same_exactly}

-- ---- an accepted call and the copy

-- a copy has nothing over
redacted_all : {xs rest : List ℕ} (l : List ℕ) → redacted l ≡ got xs rest → rest ≡ []
unfolding redacted
redacted_all {xs} {rest} l e =
    let k : Table → List ℕ = λ t. ledger_of (edition_of l) (id_of l) (satellites redact (id_of l) t) in
    let o = then_got (ledger_read l) (λ t r. got (k t) []) e in
    let q : got (k o.0) [] ≡ got xs rest = o.3 in
    cc

-- room for the copy: it is left at the buffer's start
pub redacted_copied : {l out l' rest : List ℕ} → redacted l ≡ got l' rest → length l' ≤ length out → Copied l out l'
unfolding redact_answer redact_left
redacted_copied {l} {out} {l'} {rest} e h =
    let g = result_given (id_of l) out l' rest (redacted l) e h in
    record { accepts = g.accepts; result = g.result }

-- what is left there is the copy, and there was room
pub copied_redacted : {l out l' : List ℕ} → Copied l out l' → (redacted l ≡ got l' []) × (length l' ≤ length out)
unfolding redact_answer redact_left
copied_redacted {l} {out} m =
    let o = accepted_left (id_of l) out (redacted l) m.accepts m.result in
    (rw (redacted_all l o.1) at o.1, o.2)

-- the table id and the length that an accepted call names, the copy, and behind it the old values
pub copied_given : {l out l' : List ℕ} → Copied l out l'
    → Given (id_of l) out l' (redact_answer l (length out)) (redact_left l out)
unfolding redact_answer redact_left
copied_given {l} {out} {l'} m =
    let o = copied_redacted m in
    result_given (id_of l) out l' [] (redacted l) o.0 o.1

-- after a refusal the buffer is as it was
pub redact_keeps : (l out : List ℕ) → (number_of (redact_answer l (length out)) ≡ 0 → ⊥) → redact_left l out ≡ out
unfolding redact_answer redact_left
redact_keeps l out h = refused_keeps (id_of l) out (redacted l) h

-- ---- which ledgers are copied, and what is refused

-- exactly each one that is read, given room for the copy
pub copied_exactly : (l : List ℕ) (room : ℕ)
    → (number_of (redact_answer l room) ≡ 0)
    ↔ ((t : Table) × (ledger_read l ≡ got t [])
    × (length (ledger_of (edition_of l) (id_of l) (satellites redact (id_of l) t)) ≤ room))
unfolding redact_answer redacted answer number_of
copied_exactly l room = (there, back)
  where
    copy : Table → List ℕ
    copy t = ledger_of (edition_of l) (id_of l) (satellites redact (id_of l) t)

    there : number_of (answer (id_of l) room (redacted l)) ≡ 0
        → (t : Table) × (ledger_read l ≡ got t [])
        × (length (ledger_of (edition_of l) (id_of l) (satellites redact (id_of l) t)) ≤ room)
    there e =
        let o = accepts_result (id_of l) room (redacted l) e in
        let q = then_got (ledger_read l) (λ t r. got (copy t) []) o.2 in
        let same : got (copy q.0) [] ≡ got o.0 o.1 = q.3 in
        let z : o.0 ≡ copy q.0 = cc in
        (q.0, rw (ledger_all l q.2) at q.2, rw z at o.3)

    back : (t : Table) × (ledger_read l ≡ got t [])
        × (length (ledger_of (edition_of l) (id_of l) (satellites redact (id_of l) t)) ≤ room)
        → number_of (answer (id_of l) room (redacted l)) ≡ 0
    back r = rw (copy_is l r.0 r.1, le-leb (length (copy r.0)) room r.2)

-- a refusal is the reader's own, or 22 with the copy's length, not the ledger's
pub redact_refusals : {f : Refusal} (l : List ℕ) (room : ℕ) → redact_answer l room ≡ Err f
    → (ledger_read l ≡ refused f.fault f.need f.have)
    ⊎ ((t : Table) × (ledger_read l ≡ got t [])
    × (f ≡ refuse BufferTooShort (length (ledger_of (edition_of l) (id_of l) (satellites redact (id_of l) t))) room))
unfolding redact_answer redacted
redact_refusals {f} l room e = go (answer_err (id_of l) room (redacted l) e)
  where
    copy : Table → List ℕ
    copy t = ledger_of (edition_of l) (id_of l) (satellites redact (id_of l) t)

    own : (p : Parse Table) → ledger_read l ≡ p → redacted l ≡ refused f.fault f.need f.have
        → ledger_read l ≡ refused f.fault f.need f.have
    own (got t rest) q r =
        let s : ledger_read l ≡ got t [] = rw (ledger_all l q) at q in
        absurd (got_not_refused (sym (copy_is l t s) ∙ r))
    own (refused a b c) q r =
        let z : ◌≡◌ {A = Parse (List ℕ)} (refused a b c) (refused f.fault f.need f.have) =
        sym (redact_faults l a b c q) ∙ r in
        let w : ◌≡◌ {A = Parse Table} (refused a b c) (refused f.fault f.need f.have) = cc in
        q ∙ w

    go : (redacted l ≡ refused f.fault f.need f.have)
        ⊎ ((xs : List ℕ) × (rest : List ℕ) × (redacted l ≡ got xs rest)
        × (f ≡ refuse BufferTooShort (length xs) room))
        → (ledger_read l ≡ refused f.fault f.need f.have)
        ⊎ ((t : Table) × (ledger_read l ≡ got t []) × (f ≡ refuse BufferTooShort (length (copy t)) room))
    go (inl r) = inl (own (ledger_read l) refl r)
    go (inr r) =
        let o = then_got (ledger_read l) (λ t _. got (copy t) []) r.2 in
        let same : got (copy o.0) [] ≡ got r.0 r.1 = o.3 in
        let z : r.0 ≡ copy o.0 = cc in
        inr (o.0, rw (ledger_all l o.2) at o.2, r.3 ∙ ap (λ (xs : List ℕ). refuse BufferTooShort (length xs) room) z)

-- ---- what a caller is told

-- Of two accepted ledgers that "differ only in covariance flags and parts, and so in length", the copies "are the same
-- bytes, and so is the size named when a buffer is too small": the calls answer and leave the same
pub copied_alike : {l l' : List ℕ} → SameOthers l l' → Below 256 l → Below 256 l'
    → ((room : ℕ) → redact_answer l room ≡ redact_answer l' room)
    × ((out : List ℕ) → redact_left l out ≡ redact_left l' out)
unfolding redact_answer redact_left
copied_alike {l} {l'} s h h' =
    let e : redacted l ≡ redacted l' = same_copies s h h' in
    (λ room. ap₂ (λ (k : ℕ) (p : Parse (List ℕ)). answer k room p) s.id e, λ out. ap (left out) e)

-- and only they are: ledgers that have one copy differ in nothing but covariance
pub copied_only : {l l' out out' c : List ℕ} → Below 256 l → Below 256 l' → Copied l out c → Copied l' out' c
    → SameOthers l l'
copied_only {l} {l'} h h' m m' =
    let e = (copied_redacted m).0 in
    let r = accepted_copy l h e in
    (same_exactly l l' h h').1 (r.table, r.reads, e ∙ sym (copied_redacted m').0)

-- "The copy is itself an accepted ledger of its edition": under the same id, of a body accepted before
pub copied_ledger : {l out l' : List ℕ} → Below 256 l → Copied l out l'
    → (edition_of l' ≡ edition_of l) × (id_of l' ≡ id_of l) × IsLedger AcceptedBefore (edition_of l) l'
copied_ledger {l} h m =
    let e = (copied_redacted m).0 in
    let r = accepted_copy l h e in
    (r.edition, r.id, copy_stored l h e)

-- and of a body accepted now, if the first ledger is
pub copied_ledger_now : {ed : Edition} {l out l' : List ℕ} → Below 256 l → Copied l out l' → IsLedger Accepted ed l
    → IsLedger Accepted ed l'
copied_ledger_now {ed} {l} h m w = copy_now ed l h w (copied_redacted m).0

-- given a large enough buffer the reader accepts it, and gives the body of the ledger's fields without covariance
pub copied_read : {l out l' : List ℕ} → Below 256 l → Copied l out l' → (out' : List ℕ)
    → Enough (length out') (restored l')
    → (t : Table) × (ledger_read l ≡ got t [])
    × Gave l' out' (id_of l) (body_of (edition_of l) (satellites redact (id_of l) t))
unfolding restored
copied_read {l} {l' = l'} h m out' k =
    let r = accepted_copy l h (copied_redacted m).0 in
    let n : length (body_of (edition_of l') (satellites redact (id_of l) r.table)) ≤ length out' = rw r.again at k in
    (r.table, r.reads, rw (r.id, r.edition) at (read_gave out' r.again n))

-- "the flag byte 0 and the part gone, for every satellite": so in what the reader finds in the copy
pub copied_clean : {l out l' : List ℕ} → Below 256 l → Copied l out l' → id_of l ≡ 4
    → (t : Table) × (ledger_read l' ≡ got t []) × All (λ (ts : List Field). All Clean ts) (entries_of t)
copied_clean {l} h m i =
    let r = accepted_copy l h (copied_redacted m).0 in
    (satellites redact (id_of l) r.table, r.again, copy_clean l r.table h r.reads i)

-- "all else kept": a ledger and its copy differ only in covariance flags and parts
pub copied_rest : {l out l' : List ℕ} → Below 256 l → Copied l out l' → SameOthers l l'
copied_rest {l} h m = copy_others l h (copied_redacted m).0

-- a copy of a copy is that copy
pub copied_again : {l out l' : List ℕ} → Below 256 l → Copied l out l' → (out' : List ℕ) → length l' ≤ length out'
    → Copied l' out' l'
copied_again {l} h m out' k = redacted_copied (copy_of_copy l h (copied_redacted m).0) k

-- "Ledgers under other ids are copied unaltered."
pub copied_unaltered : {l out b : List ℕ} {id : ℕ} → Below 256 l → Gave l out id b → (id ≡ 4 → ⊥) → (out' : List ℕ)
    → length l ≤ length out' → Copied l out' l
copied_unaltered {l} h g n out' k =
    let o = gave_read g in
    redacted_copied (unaltered l o.0 h o.1 (λ e. n (sym o.2 ∙ e))) k

-- ---- the bounds

-- no longer than the ledger
pub copied_length : {l out l' : List ℕ} → Below 256 l → Copied l out l' → length l' ≤ length l
copied_length {l} h m = copy_length l h (copied_redacted m).0

-- and no ledger that is read is longer than this, since no body that comes back is over 4096 bytes
pub copied_few : (l : List ℕ) {l' rest : List ℕ} → Below 256 l → redacted l ≡ got l' rest → length l' ≤ 8198
copied_few l {l'} h e =
    let r = accepted_copy l h e in
    let a = read_body_accepted l r.table h r.reads in
    let q = (read_accepted l r.table h r.reads).1 in
    let n : length l ≤ 8198 =
    rw q at (omega_few (length (ledger_of (edition_of l) (id_of l) r.table)) (length (body_of (edition_of l) r.table))
    (ledger_length (edition_of l) (fine_then (id_of l)) a) (accepted_good (fine_then (id_of l)) a).2) in
    omega (arith, copy_length l h e)
  where
    omega_few : (a b : ℕ) → a ≤ 6 + 2 * b → b ≤ 4096 → a ≤ 8198
    omega_few a b x y = omega arith
