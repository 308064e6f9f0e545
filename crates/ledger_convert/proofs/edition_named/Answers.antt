-- `edition_named` looks at the one byte of the word.
-- Assumes nothing.
use Prim.Native.Nat.{ℕ, ◌<◌, ◌≤◌}
use native.Mathlib.Omega.{arith}
use mathlib.Core.Path.{◌≡◌, refl, sym, ap, ◌∙◌}
use mathlib.Core.List.{List, [], ◌∷◌}
use lib.ListN.{length, get_or}
use borrow.Author.Tests.{ne_eqb}
use Rattle.std.specs.Prelude.{None}
use Rattle.ledger_convert.specs.Archive.{edition_named}
use Rattle.ledger_convert.proofs.edition_named.Goals as goal

-- a word of one byte is that byte
one_byte : (word : List ℕ) → 1 ≤ length word → length word < 2
    → edition_named word ≡ edition_named (get_or word 0 0 ∷ [])
one_byte [] h k = absurd (omega arith)
one_byte (c ∷ []) h k = refl
one_byte (c ∷ d ∷ word) h k = absurd (omega arith)

-- another length names none
other : (word : List ℕ) → (length word ≡ 1 → ⊥) → None ≡ edition_named word
unfolding edition_named
other [] h = refl
other (c ∷ []) h = absurd (h refl)
other (c ∷ d ∷ word) h = refl

pub returns-in_default : goal.returns-in_default
returns-in_default c = other c.args.word.now (λ e. omega (arith, e, c.in_default.len_below))

pub returns-in_default-2 : goal.returns-in_default-2
returns-in_default-2 c = other c.args.word.now (λ e. omega (arith, e, c.in_default.len_at_least))

-- the byte alone
byte_is : (c d : ℕ) → c ≡ d → edition_named (c ∷ []) ≡ edition_named (d ∷ [])
byte_is c d e = ap (λ (k : ℕ). edition_named (k ∷ [])) e

neither : (c : ℕ) → (c ≡ 49 → ⊥) → (c ≡ 50 → ⊥) → None ≡ edition_named (c ∷ [])
unfolding edition_named
neither c h k = rw (ne_eqb c 49 h, ne_eqb c 50 k) refl

pub returns-then-digit-eq49 : goal.returns-then-digit-eq49
unfolding edition_named
returns-then-digit-eq49 c =
    let one = one_byte c.args.word.now c.in-len1.len_at_least c.in-len1.len_below in
    sym (one ∙ byte_is _ 49 c.if-digit-eq49.true)

pub returns-then-digit-eq50 : goal.returns-then-digit-eq50
unfolding edition_named
returns-then-digit-eq50 c =
    let one = one_byte c.args.word.now c.in-len1.len_at_least c.in-len1.len_below in
    sym (one ∙ byte_is _ 50 c.if-digit-eq50.true)

pub returns-else-digit-eq50 : goal.returns-else-digit-eq50
returns-else-digit-eq50 c =
    let one = one_byte c.args.word.now c.in-len1.len_at_least c.in-len1.len_below in
    neither _ c.if-digit-eq49.false c.if-digit-eq50.false ∙ sym one
