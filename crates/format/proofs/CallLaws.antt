-- Demands 1 and 3 of what the ledger's writers and reader return and leave in their buffers.
-- Assumes nothing.
use mathlib.Core.Path.{◌≡◌, refl, sym, ap, ap₂, ◌∙◌, subst}
use mathlib.Core.Bool.{Bool, true, false, cond}
use mathlib.Core.Logic.{◌↔◌, ◌⊎◌, inl, inr}
use mathlib.Core.List.{List, []}
use Prim.Native.Nat.{ℕ, ◌+◌, ◌*◌, ◌<◌, ◌≤◌}
use native.Mathlib.Nat.{zero-add}
use native.Mathlib.Omega.{arith}
use lib.Dec.{leb}
use lib.ListN.{length, drop, length-append, length-drop}
use lib.Seq.{take-append_seam, drop-append_seam}
use borrow.Author.Tests.{le-leb, lt-leb, leb-true}
use Rattle.std.specs.Prelude.{Result, Err}
use Rattle.std.proofs.lemmas.Bool.{cond_both}
use Rattle.format.specs.declared.Fault.{Fault}
use Rattle.format.specs.Digits.{Below, splice}
use Rattle.format.specs.Refusals.{refuse}
use Rattle.format.specs.Syntax.{Parse, got, refused, and_then}
use Rattle.format.specs.declared.Edition.{Edition}
use Rattle.format.specs.Whole.{Table, body_read, Accepted, AcceptedBefore, body_of, ledger_of, id_of, edition_of, ledger_read}
use Rattle.format.specs.Calls.{done, number_of, table_id_of, length_of, answer, Fitted, left, result_in, Enough, filed, relaid, restored, write_answer, write_left, read_answer, read_left, Wrote, Denied, Gave}
use Rattle.format.specs.declared.Refusal.{Refusal}
use Rattle.format.specs.declared.Output.{Output}
use Rattle.format.specs.declared.Fault.TheVariants.{BufferTooShort, ExtensionTooLarge}
use Rattle.format.proofs.ParseLaws.{then_got}
use Rattle.format.proofs.NumberLaws.{fault_number_positive}
use Rattle.format.proofs.TableLaws.{fine_layout, form_of, body_form_of}
use Rattle.format.proofs.TestLaws.{Still, still, refuses}
use Rattle.format.proofs.Demand.{IsLedger, ledger_before, accepted_before, still_accepted, body_again, ledger_form_of, body_all, ledger_all, ledger_length, ledger_again, read_accepted, same_ledger, id_of_lem, edition_of_lem, ledger_exactly}

-- ---- any result and the buffer that is lent for it

-- a buffer keeps its length
pub left_length : (out : List ℕ) (p : Parse (List ℕ)) → length (left out p) ≡ length out
unfolding left splice
left_length out (refused x y z) = refl
left_length out (got xs rest) =
    cond_both (leb (length xs) (length out)) (splice out 0 xs) out (λ (o : List ℕ). length o ≡ length out)
    (λ e. length-append xs (drop (0 + length xs) out) ∙ omega (arith, length-drop (0 + length xs) out, leb-true (length xs) (length out) e)) (λ _. refl)

-- the answer by a result's length alone
pub fits : {id n room : ℕ} → n ≤ room → Fitted id n room (done id n)
unfolding answer
fits {id} {n} {room} h = record { is = λ xs rest e. rw (← e, le-leb n room h) }

pub over : {id n room : ℕ} → room < n → Fitted id n room (Err (refuse BufferTooShort n room))
unfolding answer
over {id} {n} {room} h = record { is = λ xs rest e. rw (← e, lt-leb n room h) }

-- what an answer tells: a result, its length, and room for it
pub answer_done : {t n : ℕ} (id room : ℕ) (p : Parse (List ℕ)) → answer id room p ≡ done t n
    → (xs : List ℕ) × (rest : List ℕ) × (p ≡ got xs rest) × (length xs ≡ n) × (n ≤ room)
unfolding answer length_of
answer_done id room (refused x y z) e = absurd cc
answer_done {t} {n} id room (got xs rest) e = let o = go (leb (length xs) room) refl _ e in (xs, rest, refl, o.0, o.1)
  where
    go : (b : Bool) → leb (length xs) room ≡ b → (f : Refusal) → cond b (done id (length xs)) (Err f) ≡ done t n → (length xs ≡ n) × (n ≤ room)
    go true q f e =
        let z : length xs ≡ n = ap length_of e in
        (z, omega (arith, z, leb-true (length xs) room q))
    go false q f e = absurd cc

-- or that the buffer is as it was
pub answer_refused : {f : Refusal} (id : ℕ) (out : List ℕ) (p : Parse (List ℕ)) → answer id (length out) p ≡ Err f → left out p ≡ out
unfolding answer left
answer_refused id out (refused x y z) e = refl
answer_refused {f} id out (got xs rest) e = go (leb (length xs) (length out)) _ e
  where
    go : (t : Bool) (g : Refusal) → cond t (done id (length xs)) (Err g) ≡ Err f → cond t (splice out 0 xs) out ≡ out
    go true g e = absurd cc
    go false g e = refl

pub write_within_lem : {t n : ℕ} (ed : Edition) (id : ℕ) (b : List ℕ) (room : ℕ) → write_answer ed id b room ≡ done t n → n ≤ room
unfolding write_answer
write_within_lem ed id b room e = (answer_done id room (filed ed id b) e).4

pub read_within : {t n : ℕ} (l : List ℕ) (room : ℕ) → read_answer l room ≡ done t n → n ≤ room
unfolding read_answer
read_within l room e = (answer_done (id_of l) room (restored l) e).4

-- demand 1: after a refusal the buffer is as it was
pub refused_keeps : (id : ℕ) (out : List ℕ) (p : Parse (List ℕ)) → (number_of (answer id (length out) p) ≡ 0 → ⊥) → left out p ≡ out
unfolding answer left number_of
refused_keeps id out (refused x y z) h = refl
refused_keeps id out (got xs rest) h = go (leb (length xs) (length out)) _ h
  where
    go : (t : Bool) (f : Refusal) → (number_of (cond t (done id (length xs)) (Err f)) ≡ 0 → ⊥) → cond t (splice out 0 xs) out ≡ out
    go true f k = absurd (k refl)
    go false f k = refl

-- where the answer is acceptance, there is a result and room for it
pub accepts_result : (id room : ℕ) (p : Parse (List ℕ)) → number_of (answer id room p) ≡ 0
    → (xs : List ℕ) × (rest : List ℕ) × (p ≡ got xs rest) × (length xs ≤ room)
unfolding answer number_of
accepts_result id room (refused x y z) e = absurd (omega (arith, fault_number_positive x))
accepts_result id room (got xs rest) e = (xs, rest, refl, go (leb (length xs) room) refl _ e)
  where
    go : (t : Bool) → leb (length xs) room ≡ t → (f : Refusal) → number_of (cond t (done id (length xs)) (Err f)) ≡ 0 → length xs ≤ room
    go true q f e = leb-true (length xs) room q
    go false q f e = absurd (omega (arith, fault_number_positive f.fault))

-- a result for which there is room: acceptance, the result, and behind it the old values
pub record Given (id : ℕ) (out xs : List ℕ) (a : Result Output Refusal) (out' : List ℕ) : Type 0 where
  pub accepts : number_of a ≡ 0
  pub table_id_is : table_id_of a ≡ id
  pub size : length_of a ≡ length xs
  pub result : result_in a out' ≡ xs
  pub behind : drop (length xs) out' ≡ drop (length xs) out

pub result_given : (id : ℕ) (out xs rest : List ℕ) (p : Parse (List ℕ)) → p ≡ got xs rest → length xs ≤ length out → Given id out xs (answer id (length out) p) (left out p)
unfolding answer left number_of table_id_of length_of splice
result_given id out xs rest p e h =
    rw (e, le-leb (length xs) (length out) h) (record {
      accepts = refl;
      table_id_is = refl;
      size = refl;
      result = take-append_seam xs (drop (0 + length xs) out);
      behind = drop-append_seam xs (drop (0 + length xs) out) ∙ ap (λ (k : ℕ). drop k out) (zero-add (length xs));
    })

-- what an accepted call left at the buffer's start is the result, and there was room for it
pub accepted_left : {xs : List ℕ} (id : ℕ) (out : List ℕ) (p : Parse (List ℕ))
    → number_of (answer id (length out) p) ≡ 0 → result_in (answer id (length out) p) (left out p) ≡ xs
    → (rest : List ℕ) × (p ≡ got xs rest) × (length xs ≤ length out)
accepted_left id out p a r =
    let o = accepts_result id (length out) p a in
    let g = result_given id out o.0 o.1 p o.2 o.3 in
    let e = sym g.result ∙ r in
    (o.1, rw e at o.2, rw e at o.3)

-- an answer that is a refusal: p's own, or 22, of a result that is longer than the buffer
pub answer_err : {f : Refusal} (id room : ℕ) (p : Parse (List ℕ)) → answer id room p ≡ Err f
    → (p ≡ refused f.fault f.need f.have)
    ⊎ ((xs : List ℕ) × (rest : List ℕ) × (p ≡ got xs rest) × (f ≡ refuse BufferTooShort (length xs) room))
unfolding answer
answer_err {f} id room (refused x y z) e =
    let q : refuse x y z ≡ f = cc in
    inl (ap (λ (r : Refusal). refused r.fault r.need r.have) q)
answer_err {f} id room (got xs rest) e = inr (xs, rest, refl, go (leb (length xs) room) e)
  where
    go : (t : Bool) → cond t (done id (length xs)) (Err (refuse BufferTooShort (length xs) room)) ≡ Err f
        → f ≡ refuse BufferTooShort (length xs) room
    go true q = absurd cc
    go false q = let z : refuse BufferTooShort (length xs) room ≡ f = cc in sym z

-- ---- an edition's writer

filed_table : (ed : Edition) (id : ℕ) (b xs rest : List ℕ) → filed ed id b ≡ got xs rest → (t : Table) × (body_read id b ≡ got t []) × (xs ≡ ledger_of ed id t)
unfolding filed
filed_table ed id b xs rest e =
    let o = then_got (body_read id b) (λ t r. got (ledger_of ed id t) []) e in
    let q : got (ledger_of ed id o.0) [] ≡ got xs rest = o.3 in
    (o.0, rw (body_all id b o.2) at o.2, cc)

-- demand 1: a body is accepted exactly if its reading meets no refusal and there is room for its ledger
pub write_exactly : (ed : Edition) (id : ℕ) (b : List ℕ) (room : ℕ)
    → (number_of (write_answer ed id b room) ≡ 0) ↔ ((t : Table) × (body_read id b ≡ got t []) × (length (ledger_of ed id t) ≤ room))
unfolding write_answer filed answer number_of
write_exactly ed id b room = (there, back)
  where
    there : number_of (answer id room (filed ed id b)) ≡ 0 → (t : Table) × (body_read id b ≡ got t []) × (length (ledger_of ed id t) ≤ room)
    there e =
        let o = accepts_result id room (filed ed id b) e in
        let q = filed_table ed id b o.0 o.1 o.2 in
        (q.0, q.1, rw q.2 at o.3)

    back : (t : Table) × (body_read id b ≡ got t []) × (length (ledger_of ed id t) ≤ room) → number_of (answer id room (filed ed id b)) ≡ 0
    back r = rw (r.1, le-leb (length (ledger_of ed id r.0)) room r.2)

-- an accepted pair, and room for its ledger: the edition's writer leaves that
pub accepted_wrote : {id : ℕ} {b : List ℕ} {t : Table} (ed : Edition) (out : List ℕ) → Accepted id b t → length (ledger_of ed id t) ≤ length out → Wrote ed id b out (ledger_of ed id t)
unfolding write_answer write_left filed
accepted_wrote {id} {b} {t} ed out p h =
    let g = result_given id out (ledger_of ed id t) [] (and_then (body_read id b) (λ u r. got (ledger_of ed id u) [])) (rw p.reads) h in
    record { accepts = g.accepts; result = g.result }

-- and what it leaves is the ledger of an accepted pair
pub wrote_accepted : {ed : Edition} {id : ℕ} {b out l : List ℕ} → id < 256 → Below 256 b → Wrote ed id b out l
    → (t : Table) × Accepted id b t × (ledger_of ed id t ≡ l) × (length l ≤ length out)
unfolding write_answer write_left
wrote_accepted {ed} {id} {b} {out} {l} hi hb w =
    let o = accepted_left id out (filed ed id b) w.accepts w.result in
    let q = filed_table ed id b l o.0 o.1 in
    (q.0, record { byte = hi; bytes = hb; reads = q.1 }, sym q.2, o.2)

-- ---- the reader

restored_table : (l xs rest : List ℕ) → restored l ≡ got xs rest → (t : Table) × (ledger_read l ≡ got t []) × (xs ≡ body_of (edition_of l) t)
unfolding restored
restored_table l xs rest e =
    let o = then_got (ledger_read l) (λ t r. got (body_of (edition_of l) t) []) e in
    let q : got (body_of (edition_of l) o.0) [] ≡ got xs rest = o.3 in
    (o.0, rw (ledger_all l o.2) at o.2, cc)

pub read_gave : {l : List ℕ} {t : Table} (out : List ℕ) → ledger_read l ≡ got t [] → length (body_of (edition_of l) t) ≤ length out → Gave l out (id_of l) (body_of (edition_of l) t)
unfolding read_answer read_left restored
read_gave {l} {t} out e h =
    let ed : Edition = edition_of l in
    let g = result_given (id_of l) out (body_of ed t) [] (and_then (ledger_read l) (λ u r. got (body_of ed u) [])) (rw e) h in
    record { accepts = g.accepts; table_id_is = g.table_id_is; result = g.result }

pub gave_read : {l out b : List ℕ} {id : ℕ} → Gave l out id b → (t : Table) × (ledger_read l ≡ got t []) × (id_of l ≡ id) × (body_of (edition_of l) t ≡ b)
unfolding read_answer read_left
gave_read {l} {out} {b} {id} w =
    let o = accepted_left (id_of l) out (restored l) w.accepts w.result in
    let q = restored_table l b o.0 o.1 in
    let g = result_given (id_of l) out b o.0 (restored l) o.1 o.2 in
    (q.0, q.1, sym g.table_id_is ∙ w.table_id_is, sym q.2)

enough_body : (l : List ℕ) (t : Table) (room : ℕ) → ledger_read l ≡ got t [] → Enough room (restored l) → length (body_of (edition_of l) t) ≤ room
unfolding restored
enough_body l t room e h = rw e at h

-- ---- demand 3, in each edition

relaid_of : {id : ℕ} {b : List ℕ} {t : Table} (ed : Edition) → Accepted id b t → relaid ed id b ≡ got (body_of ed t) []
unfolding relaid
relaid_of ed p = rw p.reads

-- two pairs share a ledger exactly when they have the same id and the same plain body; in edition 2, the same kept body
pub share_exactly : {ed : Edition} {id id' : ℕ} {b b' out out' l l' : List ℕ} → id < 256 → id' < 256 → Below 256 b → Below 256 b' → Wrote ed id b out l → Wrote ed id' b' out' l'
    → (l ≡ l') ↔ ((id ≡ id') × (relaid ed id b ≡ relaid ed id' b'))
share_exactly {ed} {id} {id'} {b} {b'} {l = l} {l' = l'} hi hi' hb hb' w w' =
    let o = wrote_accepted hi hb w in
    let o' = wrote_accepted hi' hb' w' in
    let s = same_ledger ed (accepted_before o.1) (accepted_before o'.1) in (
      λ e. let r = s.0 (o.2 ∙ e ∙ sym o'.2) in (r.0, relaid_of ed o.1 ∙ ap (λ (x : List ℕ). got x []) r.1 ∙ sym (relaid_of ed o'.1)),
      λ r. sym o.2 ∙ s.1 (r.0, inj (sym (relaid_of ed o.1) ∙ r.1 ∙ relaid_of ed o'.1)) ∙ o'.2,
    )
  where
    inj : {x y : List ℕ} → got x [] ≡ got y [] → x ≡ y
    inj e = cc

-- it alone gives back the id and the plain, or kept, body of every pair with that ledger
pub gives_back : {ed : Edition} {id : ℕ} {b out l : List ℕ} → id < 256 → Below 256 b → Wrote ed id b out l
    → (out' : List ℕ) → Enough (length out') (restored l) → (p : List ℕ) × (relaid ed id b ≡ got p []) × Gave l out' id p
gives_back {ed} {id} {b} {l = l} hi hb w out' h =
    let o = wrote_accepted hi hb w in
    let t : Table = form_of ed o.0 in
    let e : ledger_read l ≡ got t [] = ap ledger_read (sym o.2) ∙ ledger_again ed (accepted_before o.1) in
    let i : id_of l ≡ id = ap id_of (sym o.2) ∙ id_of_lem ed id o.0 in
    let d : edition_of l ≡ ed = ap edition_of (sym o.2) ∙ edition_of_lem ed id o.0 in
    let z : body_of (edition_of l) t ≡ body_of ed o.0 = ap (λ (x : Edition). body_of x t) d ∙ body_form_of ed o.0 in
    (body_of ed o.0, relaid_of ed o.1, rw (i, z) at (read_gave out' e (enough_body l t (length out') e h)))

-- and that body under that id is accepted and has that byte string as its ledger again
pub ledger_of_result : {ed : Edition} {id id' : ℕ} {b p out out' l : List ℕ} → id < 256 → Below 256 b → Wrote ed id b out l → Gave l out' id' p
    → (out'' : List ℕ) → length l ≤ length out'' → Wrote ed id' p out'' l
ledger_of_result {ed} {id} {id'} {b} {p} {l = l} hi hb w g out'' h =
    let o = wrote_accepted hi hb w in
    let q = gave_read g in
    let t : Table = o.0 in
    let e : ledger_read l ≡ got (form_of ed t) [] = ap ledger_read (sym o.2) ∙ ledger_again ed (accepted_before o.1) in
    let d : edition_of l ≡ ed = ap edition_of (sym o.2) ∙ edition_of_lem ed id t in
    let s : q.0 ≡ form_of ed t = inj (sym q.1 ∙ e) in
    let i : id ≡ id' = sym (ap id_of (sym o.2) ∙ id_of_lem ed id t) ∙ q.2 in
    let z : body_of ed t ≡ p = sym (body_form_of ed t) ∙ ap₂ body_of (sym d) (sym s) ∙ q.3 in
    let y : ledger_of ed id (form_of ed t) ≡ l = ledger_form_of ed id t ∙ o.2 in
    given i z y (accepted_wrote ed out'' (body_again ed (fine_layout id) o.1) (rw y h))
  where
    inj : {u v : Table} → got u [] ≡ got v [] → u ≡ v
    inj e = cc

    given : {i j : ℕ} {x y m k : List ℕ} → i ≡ j → x ≡ y → m ≡ k → Wrote ed i x out'' m → Wrote ed j y out'' k
    given a c d' r = rw (← a, ← c, ← d') r

-- ---- demand 3 of any byte string; what is read may be a stored ledger, of a body accepted before

-- a stored ledger is read, and turned into its body
pub stored_given : {ed : Edition} {l : List ℕ} (r : IsLedger AcceptedBefore ed l) (out : List ℕ) → Enough (length out) (restored l) → Gave l out r.id (body_of ed r.table)
stored_given {ed} {l} r out h =
    let t : Table = form_of ed r.table in
    let e : ledger_read l ≡ got t [] = ap ledger_read (sym r.is) ∙ ledger_again ed r.accepted in
    let i : id_of l ≡ r.id = ap id_of (sym r.is) ∙ id_of_lem ed r.id r.table in
    let d : edition_of l ≡ ed = ap edition_of (sym r.is) ∙ edition_of_lem ed r.id r.table in
    let z : body_of (edition_of l) t ≡ body_of ed r.table = ap (λ (x : Edition). body_of x t) d ∙ body_form_of ed r.table in
    rw (i, z) at (read_gave out e (enough_body l t (length out) e h))

-- a body that is refused is so by either edition's writer
denied : {id : ℕ} {b : List ℕ} {x : Fault} {y z : ℕ} (ed : Edition) (out : List ℕ) → body_read id b ≡ refused x y z → Denied ed id b out (refuse x y z)
unfolding write_answer write_left filed answer left
denied ed out e = record { refuses = rw e; keeps = rw e }

-- the body that comes back has that byte string as its ledger again, in the edition that it names; or, for an extension
-- above 299, it is refused by 30
pub data Again (l : List ℕ) (id : ℕ) (b : List ℕ) : Type 0 where
  written : ((out : List ℕ) → length l ≤ length out → Wrote (edition_of l) id b out l) → Again l id b
  damaged : (v : ℕ) → 299 < v → ((ed : Edition) (out : List ℕ) → Denied ed id b out (refuse ExtensionTooLarge v 299)) → Again l id b

read_again : {l : List ℕ} {t : Table} → Below 256 l → ledger_read l ≡ got t [] → Again l (id_of l) (body_of (edition_of l) t)
read_again {l} {t} hl e = go (still_accepted q.0)
  where
    ed : Edition
    ed = edition_of l

    q : AcceptedBefore (id_of l) (body_of ed t) t × (ledger_of ed (id_of l) t ≡ l)
    q = read_accepted l t hl e

    go : Still (body_read (id_of l) (body_of ed t)) t [] → Again l (id_of l) (body_of ed t)
    go (still r) =
        written (λ out h. subst (λ (x : List ℕ). Wrote ed (id_of l) (body_of ed t) out x) q.1
        (accepted_wrote ed out (record { byte = q.0.byte; bytes = q.0.bytes; reads = r }) (rw q.1 h)))
    go (refuses v h r) = damaged v h (λ ed out. denied ed out r)

pub result_again : {l out b : List ℕ} {id : ℕ} → Below 256 l → Gave l out id b → Again l id b
result_again {l} hl g =
    let o = gave_read g in
    given o.2 o.3 (read_again hl o.1)
  where
    given : {i j : ℕ} {x y : List ℕ} → i ≡ j → x ≡ y → Again l i x → Again l j y
    given a c r = rw (← a, ← c) r

-- a byte string is accepted, given a large enough buffer, exactly if it is the ledger, in an edition, of some pair
-- accepted before
pub read_exactly : (l out : List ℕ) → Below 256 l → Enough (length out) (restored l) → (number_of (read_answer l (length out)) ≡ 0) ↔ ((ed : Edition) × IsLedger AcceptedBefore ed l)
unfolding read_answer
read_exactly l out hl h = (there, back)
  where
    there : number_of (answer (id_of l) (length out) (restored l)) ≡ 0 → (ed : Edition) × IsLedger AcceptedBefore ed l
    there e =
        let o = accepts_result (id_of l) (length out) (restored l) e in
        let q = restored_table l o.0 o.1 o.2 in
        (ledger_exactly l hl).0 (q.0, q.1)

    back : (ed : Edition) × IsLedger AcceptedBefore ed l → number_of (answer (id_of l) (length out) (restored l)) ≡ 0
    back r =
        let o = (ledger_exactly l hl).1 r in
        (read_gave out o.1 (enough_body l o.0 (length out) o.1 h)).accepts

-- so it is refused exactly if it is a ledger, in neither edition, of a body accepted now or before
pub refused_exactly : (l out : List ℕ) → Below 256 l → Enough (length out) (restored l)
    → (number_of (read_answer l (length out)) ≡ 0 → ⊥) ↔ ((ed : Edition) → (IsLedger Accepted ed l → ⊥) × (IsLedger AcceptedBefore ed l → ⊥))
refused_exactly l out hl h =
    let r = read_exactly l out hl h in (
      λ no-accept ed. (λ ledger. no-accept (r.1 (ed, ledger_before ledger)), λ ledger. no-accept (r.1 (ed, ledger))),
      λ no-ledger accept. let o = r.0 accept in (no-ledger o.0).1 o.1,
    )

-- the bound
pub wrote_length : {ed : Edition} {id : ℕ} {b out l : List ℕ} → id < 256 → Below 256 b → Wrote ed id b out l → length l ≤ 6 + 2 * length b
wrote_length {ed} {id} hi hb w = let o = wrote_accepted hi hb w in rw (← o.2) (ledger_length ed (fine_layout id) o.1)
