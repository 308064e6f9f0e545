-- What the converter's answer and the buffers make of a ledger.
-- Assumes nothing.
use Prim.Native.Nat.{ℕ, ◌+◌, ◌≤◌}
use native.Mathlib.Omega.{arith}
use mathlib.Core.Path.{◌≡◌, refl, sym, ap, ◌∙◌, subst}
use mathlib.Core.Bool.{true, false}
use mathlib.Core.List.{List, [], ◌∷◌, ◌++◌}
use lib.ListN.{length, take, length-append}
use borrow.Author.Tests.{le-leb}
use Rattle.std.specs.Prelude.{Option, unwrap_or, Result, Ok, Err}
use Rattle.std.specs.Io.KnownBytes.{Appends}
use Rattle.std.proofs.KnownBytes.{Appends-nil}
use Rattle.format.specs.Digits.{Below}
use Rattle.format.specs.Refusals.{refuse, fault_number}
use Rattle.format.specs.Syntax.{Parse, got, refused}
use Rattle.format.specs.declared.Edition.{Edition}
use Rattle.format.specs.declared.Output.{Output}
use Rattle.format.specs.declared.Refusal.{Refusal}
use Rattle.format.specs.Whole.{id_of}
use Rattle.format.specs.Calls.{number_of, length_of, answer, done, result_in}
use Rattle.format.specs.Convert.{converted, convert_answer, convert_left, Moved}
use Rattle.format.proofs.CallLaws.{answer_done, left_length}
use Rattle.format.proofs.ConvertCalls.{moved_converted, moved_few}
use Rattle.bits.proofs.Splices.{length_splice, splice_back}
use Rattle.ledger_text.specs.Text.{decimal, refusal_line, placed, Stored}
use Rattle.ledger_text.proofs.Lines.{stored_fits}
use Rattle.ledger_text.proofs.Decimals.{decimal_most, refusal_most}
use Rattle.ledger_convert.specs.Archive.{written, reported, is_empty}
use Rattle.ledger_convert.specs.Streams.{Sent}

-- the converted ledger is within the buffer
pub within : (ed : Edition) (l : List ℕ) (out left : List ℕ) {a : Result Output Refusal} {o : Output}
    → a ≡ convert_answer ed l (length out) → left ≡ convert_left ed l out → a ≡ Ok o → o.length ≤ length left
unfolding convert_answer convert_left
within ed l out left e w d =
    let h = (answer_done (id_of l) (length out) (converted ed l) (sym e ∙ d)).4 in
    omega (arith, h, ap length w, left_length out (converted ed l))

module _ (ed : Edition) (l : List ℕ) where
  -- a ledger that is accepted is left in the buffer
  left_there : (out : List ℕ) {o : Output} → convert_answer ed l (length out) ≡ Ok o
      → converted ed l ≡ got (take o.length (convert_left ed l out)) []
  unfolding number_of length_of
  left_there out {o} e =
      let m : Moved ed l out (result_in (convert_answer ed l (length out)) (convert_left ed l out)) =
      record { accepts = ap number_of e; result = refl } in
      (moved_converted m).0
      ∙ ap (λ (a : Result Output Refusal). got (result_in a (convert_left ed l out)) []) e

  answer_not : (room : ℕ) (p : Parse (List ℕ)) (f : Refusal) → ((xs rest : List ℕ) → p ≡ got xs rest → length xs ≤ room)
      → answer (id_of l) room p ≡ Err f → p ≡ refused f.fault f.need f.have
  unfolding answer
  answer_not room (got xs rest) f h e =
      let fits = le-leb (length xs) room (h xs rest refl) in
      let d : done (id_of l) (length xs) ≡ Err f = rw fits at e in
      absurd (cc)
  answer_not room (refused x y z) f h e =
      let same : refuse x y z ≡ f = cc in
      ap (λ (g : Refusal). refused g.fault g.need g.have) same

  -- a refusal is the ledger's own, or 29: 8198 bytes have room for every ledger
  own_refusal : Below 256 l → (room : ℕ) → 8198 ≤ room → {f : Refusal} → convert_answer ed l room ≡ Err f
      → converted ed l ≡ refused f.fault f.need f.have
  unfolding convert_answer
  own_refusal h room k {f} e =
      answer_not room (converted ed l) f (λ xs rest g. omega (arith, moved_few ed l h g)) e

  -- a converted ledger that was written
  pub sent_converted : (place : ℕ) (out left : List ℕ) {a : Result Output Refusal} {o : Output}
      (old new report : Option (List ℕ)) → a ≡ convert_answer ed l (length out) → left ≡ convert_left ed l out
      → a ≡ Ok o
      → Appends old new (take o.length left) → Sent {E = Unit {0}} ed place l old new report report (Ok true)
  unfolding written reported is_empty
  sent_converted place out left {o = o} old new report e w d s =
      let c : converted ed l ≡ got (take o.length left) [] =
      rw w (left_there out (sym e ∙ d)) in
      rw c (s, Appends-nil report, refl)

-- what was stored as a line comes back of as many bytes
stored_text : {line before after : List ℕ} {r : Option ℕ} {n : ℕ} → Stored line before after r
    → length line ≤ length before → n ≡ unwrap_or r 0 → take n after ≡ line
stored_text {line} {before} {after} {r} {n} s h e =
    let fits = stored_fits s h in
    let size : length line ≡ n = sym (e ∙ ap (λ (k : Option ℕ). unwrap_or k 0) fits.0) in
    rw (fits.1) (splice_back before line 0 n (omega arith) size)

pub stored_within : {line before after : List ℕ} {r : Option ℕ} {n : ℕ} → Stored line before after r
    → length line ≤ length before → n ≡ unwrap_or r 0 → n ≤ length after
stored_within {line} {before} {after} {r} {n} s h e =
    let fits = stored_fits s h in
    let size : n ≡ length line = e ∙ ap (λ (k : Option ℕ). unwrap_or k 0) fits.0 in
    omega (arith, size, h, ap length fits.1, length_splice before 0 line (omega arith))

-- a place's line is 21 bytes longer at most, and never empty
pub placed_most : (place : ℕ) (line : List ℕ) → length (placed place line) ≤ 21 + length line
unfolding placed
placed_most place line =
    let d = decimal_most place in
    simp length-append (omega arith)

some_byte : (xs ys : List ℕ) (x : ℕ) → is_empty ((xs ++ (x ∷ [])) ++ ys) ≡ false
unfolding is_empty
some_byte [] ys x = refl
some_byte (y ∷ xs) ys x = refl

pub placed_some : (place : ℕ) (line : List ℕ) → is_empty (placed place line) ≡ false
unfolding placed
placed_some place line = some_byte (decimal place) line 32

-- a refusal that was reported
pub sent_refused : (ed : Edition) (l : List ℕ) (place : ℕ) {a : Result Output Refusal} {f : Refusal}
    {line line' text text' : List ℕ} {r r' : Option ℕ} {n n' : ℕ} (output old new : Option (List ℕ)) (out : List ℕ)
    → Below 256 l → 8198 ≤ length out → a ≡ convert_answer ed l (length out) → a ≡ Err f
    → 65 ≤ length line → 86 ≤ length text
    → Stored (refusal_line (fault_number f.fault) f.need f.have) line line' r → n ≡ unwrap_or r 0
    → Stored (placed place (take n line')) text text' r' → n' ≡ unwrap_or r' 0
    → Appends old new (take n' text') → Sent {E = Unit {0}} ed place l output output old new (Ok false)
unfolding written reported
sent_refused ed l place {f = f} {line = line} {line'} {text} {text'} {n = n} {n'} output old new out b k e d p q s u s'
    u' w =
    let c : converted ed l ≡ refused f.fault f.need f.have = own_refusal ed l b (length out) k (sym e ∙ d) in
    let first : List ℕ = refusal_line (fault_number f.fault) f.need f.have in
    let most = refusal_most (fault_number f.fault) f.need f.have in
    let told : take n line' ≡ first = stored_text s (omega (arith, most)) u in
    let short = placed_most place first in
    let all : Stored (placed place first) text text' _ = rw told at s' in
    let whole : take n' text' ≡ placed place first = stored_text all (omega (arith, most, short)) u' in
    rw c (Appends-nil output, subst (Appends old new) whole w, sym (placed_some place first))
