-- That the ledger writer's answer, in the program's buffer, makes what `output_of` says.
-- Assumes nothing.
use Prim.Native.Nat.{ℕ, ◌≤◌, ◌<◌}
use native.Mathlib.Omega.{arith}
use mathlib.Core.Path.{◌≡◌, refl, sym, ap, ◌∙◌}
use mathlib.Core.List.{List, [], ◌∷◌}
use lib.ListN.{length, take, get_or, length-take}
use borrow.Author.Tests.{le-leb}
use Rattle.std.specs.Prelude.{Result, Ok, Err, Option, unwrap_or}
use Rattle.format.specs.Digits.{Below, splice}
use Rattle.format.specs.Refusals.{refuse, fault_number}
use Rattle.format.specs.Syntax.{Parse, got, refused}
use Rattle.format.specs.declared.Fault.{Fault}
use Rattle.format.specs.declared.Edition.TheVariants.{First}
use Rattle.format.specs.Whole.{Table, body_read, Accepted, ledger_of}
use Rattle.format.specs.Calls.{number_of, length_of, answer, done, result_in, filed, write_answer, write_left}
use Rattle.format.specs.declared.Output.{Output}
use Rattle.format.specs.declared.Refusal.{Refusal}
use Rattle.format.proofs.DigitLaws.{below_of}
use Rattle.format.proofs.TableLaws.{fine_layout}
use Rattle.format.proofs.Demand.{body_all, accepted_good, ledger_length}
use Rattle.format.proofs.CallLaws.{left_length, write_exactly, result_given}
use Rattle.ledger_text.specs.Text.{ascii, hex_line, refusal_line, Stored}
use Rattle.ledger_text.proofs.Lines.{stored_fits, hex_line_length}
use Rattle.ledger_text.proofs.Decimals.{refusal_most}
use Rattle.sat_ledger.specs.Output.{shown, output_of}

module _ (id : ℕ) (b : List ℕ) where
  filed_got : {t : Table} → body_read id b ≡ got t [] → filed First id b ≡ got (ledger_of First id t) []
  unfolding filed
  filed_got e = rw e

  filed_not : {f : Fault} {y z : ℕ} → body_read id b ≡ refused f y z → filed First id b ≡ refused f y z
  unfolding filed
  filed_not e = rw e

  -- what is accepted is left in the buffer
  filed_done : (out : List ℕ) {o : Output} → write_answer First id b (length out) ≡ Ok o
      → filed First id b ≡ got (take o.length (write_left First id b out)) []
  unfolding number_of length_of write_answer write_left
  filed_done out e =
      let w = (write_exactly First id b (length out)).0 (ap number_of e) in
      let f = filed_got w.1 in
      let g = result_given id out (ledger_of First id w.0) [] (filed First id b) f w.2 in
      f ∙ ap (λ (x : List ℕ). got x [])
      (sym g.result ∙ ap (λ (a : Result Output Refusal). result_in a (write_left First id b out)) e)

  answer_done : (room : ℕ) {xs : List ℕ} → filed First id b ≡ got xs [] → length xs ≤ room
      → write_answer First id b room ≡ done id (length xs)
  unfolding write_answer answer
  answer_done room {xs} e h = rw (e, le-leb (length xs) room h)

  answer_not : (room : ℕ) {f : Fault} {y z : ℕ} → filed First id b ≡ refused f y z
      → write_answer First id b room ≡ Err (refuse f y z)
  unfolding write_answer answer
  answer_not room e = rw e

  -- a refusal is the body's own: 8198 bytes have room for every ledger
  filed_refused : id < 256 → Below 256 b → (room : ℕ) → 8198 ≤ room → (f : Refusal)
      → write_answer First id b room ≡ Err f → filed First id b ≡ refused f.fault f.need f.have
  filed_refused hi hb room hr f e = go (body_read id b) refl
    where
      go : (p : Parse Table) → body_read id b ≡ p → filed First id b ≡ refused f.fault f.need f.have
      go (got t r) q =
          let reads : body_read id b ≡ got t [] = rw (body_all id b q) at q in
          let p : Accepted id b t = record { byte = hi; bytes = hb; reads = reads } in
          let long = ledger_length First (fine_layout id) p in
          let fits : length (ledger_of First id t) ≤ room =
          omega (arith, long, (accepted_good (fine_layout id) p).2) in
          let d = answer_done room (filed_got reads) fits in
          absurd (cc)
      go (refused x y z) q =
          let same : refuse x y z ≡ f = cc (answer_not room (filed_not q)) in
          filed_not q ∙ ap (λ (g : Refusal). refused g.fault g.need g.have) same

-- the line is stored in the text, and nothing else changes there
abbrev pub Printed : List ℕ → List ℕ → List ℕ → ℕ → Type 0
Printed input before after r = (r ≡ length (output_of input)) × (after ≡ splice before 0 (output_of input))

none_is : (input : List ℕ) → length input ≡ 0 → ascii "no input\n" ≡ output_of input
unfolding output_of
none_is [] h = refl
none_is (x ∷ input) h = absurd (omega arith)

-- the program's text has room for it
module _ {before after : List ℕ} {r : Option ℕ} {n : ℕ} (room : length before ≡ 16397) (told : n ≡ unwrap_or r 0) where
  printed : (input line : List ℕ) → Stored line before after r → length line ≤ 16397 → line ≡ output_of input
      → Printed input before after n
  printed input line s h e =
      let w = stored_fits s (omega arith) in
      (told ∙ ap (λ (k : Option ℕ). unwrap_or k 0) w.0 ∙ ap length e, w.1 ∙ ap (splice before 0) e)

  pub printed_none : (input : List ℕ) → length input ≡ 0 → Stored (ascii "no input\n") before after r
      → Printed input before after n
  printed_none input h s = printed input (ascii "no input\n") s (omega arith) (none_is input h)

  module _ {input : List ℕ} (id : ℕ) (body : List ℕ) (split : input ≡ id ∷ body) {a : Result Output Refusal}
      (out : List ℕ) (cleared : length out ≡ 8198) (answered : a ≡ write_answer First id body (length out)) where
    pub printed_ledger : {left : List ℕ} {o : Output} → left ≡ write_left First id body out → a ≡ Ok o
        → Stored (hex_line (take o.length left)) before after r → Printed input before after n
    unfolding write_left output_of shown
    printed_ledger {left} {o} w d s =
        let long : length left ≡ 8198 = ap length w ∙ left_length out (filed First id body) ∙ cleared in
        let short : length (take o.length left) ≤ 8198 = simp length-take (omega arith) in
        let f = filed_done id body out (sym answered ∙ d) in
        let line : hex_line (take o.length left) ≡ output_of input =
        rw split (ap (λ (l : List ℕ). hex_line (take o.length l)) w ∙ sym (ap shown f)) in
        printed input (hex_line (take o.length left)) s (omega (arith, hex_line_length (take o.length left))) line

    pub printed_refusal : {f : Refusal} → ((i : ℕ) → get_or input i 0 < 256) → a ≡ Err f
        → Stored (refusal_line (fault_number f.fault) f.need f.have) before after r → Printed input before after n
    unfolding output_of shown
    printed_refusal {f} bytes d s =
        let b : Below 256 (id ∷ body) = rw split at (below_of 256 input bytes) in
        let own = filed_refused id body b.0 b.1 (length out) (omega arith) f (sym answered ∙ d) in
        let line = refusal_line (fault_number f.fault) f.need f.have in
        printed input line s (omega (arith, refusal_most (fault_number f.fault) f.need f.have)) (rw split (sym (ap shown own)))
