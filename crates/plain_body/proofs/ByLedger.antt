-- The ledger of a body in an edition, written into a buffer that has room for every ledger: the body that comes back
-- is the plain, or kept, body, and its refusal is the body's.
-- Assumes nothing.
use Prim.Native.Nat.{ℕ, ◌<◌, ◌≤◌}
use mathlib.Core.Path.{◌≡◌, refl, sym, ap, ap₂, ◌∙◌}
use mathlib.Core.List.{List, []}
use native.Mathlib.Omega.{arith}
use lib.ListN.{length, take}
use borrow.Author.Tests.{le-leb}
use Rattle.format.specs.Digits.{Below}
use Rattle.std.specs.Prelude.{Result, Ok, Err}
use Rattle.format.specs.Refusals.{refuse}
use Rattle.format.specs.Syntax.{Parse, got, refused, and_then}
use Rattle.format.specs.declared.Edition.{Edition}
use Rattle.format.specs.Whole.{Table, body_read, Accepted, body_of, ledger_of, id_of, edition_of, ledger_read}
use Rattle.format.specs.Calls.{done, number_of, length_of, answer, left, filed, relaid, restored, write_answer, write_left, read_answer, read_left, Wrote}
use Rattle.format.specs.declared.Refusal.{Refusal}
use Rattle.format.specs.declared.Output.{Output}
use Rattle.format.proofs.TableLaws.{fine_layout, body_form_of}
use Rattle.format.proofs.Demand.{body_all, accepted_before, accepted_good, ledger_length, ledger_again, id_of_lem, edition_of_lem}
use Rattle.format.proofs.CallLaws.{wrote_accepted}
use Rattle.ledger_reader.specs.Measured.{measured, measure_of}
use Rattle.plain_body.specs.Bodies.{body_answer, body_left, body_measure}

module _ (ed : Edition) (id : ℕ) (b : List ℕ) (hi : id < 256) (hb : Below 256 b) where
  -- ---- the ledger, as it stands in the buffer

  module _ (out : List ℕ) {out' : List ℕ} {a : Result Output Refusal} {o : Output} (e : a ≡ write_answer ed id b (length out)) (k : out' ≡ write_left ed id b out) (q : a ≡ Ok o) where
    wrote : Wrote ed id b out (take o.length out')
    unfolding number_of length_of
    wrote = record { accepts = rw (sym e ∙ q); result = rw (sym e ∙ q, ← k) }

    of_ledger : (id_of (take o.length out') ≡ id) × (restored (take o.length out') ≡ relaid ed id b)
    unfolding restored relaid
    of_ledger =
        let w = wrote_accepted hi hb wrote in (
          ap id_of (sym w.2) ∙ id_of_lem ed id w.0,
          rw (ap ledger_read (sym w.2) ∙ ledger_again ed (accepted_before w.1), ap edition_of (sym w.2) ∙ edition_of_lem ed id w.0, w.1.reads, body_form_of ed w.0),
        )

    pub by_answer : (room : ℕ) → read_answer (take o.length out') room ≡ body_answer ed id b room
    unfolding read_answer body_answer
    by_answer room = ap₂ (λ (j : ℕ) (p : Parse (List ℕ)). answer j room p) of_ledger.0 of_ledger.1

    pub by_left : (into : List ℕ) → read_left (take o.length out') into ≡ body_left ed id b into
    unfolding read_left body_left
    by_left into = ap (left into) of_ledger.1

    pub by_measure : measure_of (take o.length out') ≡ body_measure ed id b
    unfolding measure_of body_measure
    by_measure = ap₂ measured of_ledger.0 of_ledger.1

  -- ---- refused: there is room, so it is the body's refusal, and that of what is wanted of it

  no_body : {room : ℕ} {a : Result Output Refusal} {f : Refusal} → 8198 ≤ room → a ≡ write_answer ed id b room → a ≡ Err f
      → relaid ed id b ≡ refused f.fault f.need f.have
  unfolding write_answer filed relaid answer
  no_body {room} {a} {f} h e q = go (body_read id b) refl (sym q ∙ e)
    where
      go : (p : Parse Table) → body_read id b ≡ p → Err f ≡ answer id room (and_then p (λ t rest. got (ledger_of ed id t) []))
          → and_then p (λ t rest. got (body_of ed t) []) ≡ refused f.fault f.need f.have
      go (got t rest) r z =
          let p : Accepted id b t = record { byte = hi; bytes = hb; reads = rw (body_all id b r) at r } in
          let g = accepted_good (fine_layout id) p in
          let k = le-leb (length (ledger_of ed id t)) room (omega (arith, ledger_length ed (fine_layout id) p, g.2)) in
          let y : Err f ≡ done id (length (ledger_of ed id t)) = rw k at z in
          let z : ◌≡◌ {A = ℕ} 0 1 = cc in
          absurd (omega arith)
      go (refused x y w) r z = let g : f ≡ refuse x y w = cc in rw g

  pub no_answer : {size : ℕ} {a : Result Output Refusal} {f : Refusal} (out : List ℕ) → 8198 ≤ size → a ≡ write_answer ed id b size → a ≡ Err f
      → (Err f ≡ body_answer ed id b (length out)) × (out ≡ body_left ed id b out)
  unfolding body_answer body_left answer left
  no_answer out h e q = let z = no_body h e q in (rw z, rw z)

  pub no_measure : {size : ℕ} {a : Result Output Refusal} {f : Refusal} → 8198 ≤ size → a ≡ write_answer ed id b size → a ≡ Err f → Err f ≡ body_measure ed id b
  unfolding body_measure
  no_measure h e q = rw (no_body h e q)
