-- S-19: a ledger moved between editions, and the calls that do it.
-- Assumes nothing: these are definitions.
use Rattle.std.specs.Prelude.{ℕ, suc, ◌/◌, ◌≡◌, Bool, cond, true, ◌&&◌, List, [], ◌∷◌, length, eqb, Result}
use Rattle.format.specs.Syntax.{Field, num, flags, bytes, len, filler, Parse, got, refused, and_then}
use Rattle.format.specs.declared.Edition.{Edition}
use Rattle.format.specs.declared.Edition.TheVariants.{First, Second}
use Rattle.format.specs.Body.{plain}
use Rattle.format.specs.Whole.{entries_of, ledger_of, id_of, ledger_read}
use Rattle.format.specs.Calls.{number_of, answer, left, result_in}
use Rattle.format.specs.declared.Refusal.{Refusal}
use Rattle.format.specs.declared.Output.{Output}
use Rattle.format.specs.declared.Fault.TheVariants.{PlanInexact}

-- whether edition 1 has all of an entry's fields: a plan's length is exact, what its fields take in a plain body, and
-- it has no filler
unfoldable pub exact : List Field → Bool
exact [] = true
exact (num g nm w v ∷ ts) = exact ts
exact (flags nm bs ∷ ts) = exact ts
exact (bytes nm bs ∷ ts) = exact ts
exact (len nm v ∷ ts) = eqb v (length (plain ts) / 8) && exact ts
exact (filler fs ∷ ts) = eqb (length fs) 0 && exact ts

-- p, or 29 with the index of the first entry that is not exact; i: the index of the first one here
unfoldable pub all_exact : ℕ → List (List Field) → Parse (List ℕ) → Parse (List ℕ)
all_exact i [] p = p
all_exact i (ts ∷ es) p =
    let more : Parse (List ℕ) = all_exact (suc i) es p in
    cond (exact ts) more (refused PlanInexact i 0)

-- "where nothing is lost by it": p, or 29 where the edition that is wanted lacks something of an entry; edition 2 has
-- all
abbrev pub lossless : Edition → List (List Field) → Parse (List ℕ) → Parse (List ℕ)
lossless First es p = all_exact 0 es p
lossless Second es p = p

-- The ledger in the edition ed: of the same id and the same fields; or the ledger's own refusal, or 29. A ledger of
-- edition 1 is read as exact plans without filler, so 29 is met from edition 2 to 1 alone, and only under id 3.
unfoldable pub converted : Edition → List ℕ → Parse (List ℕ)
converted ed l = and_then (ledger_read l) (λ t rest. lossless ed (entries_of t) (got (ledger_of ed (id_of l) t) []))

-- ---- the calls: the edition that is wanted, a ledger, and the buffer, or its length

unfoldable pub convert_answer : Edition → List ℕ → ℕ → Result Output Refusal
convert_answer ed l room = answer (id_of l) room (converted ed l)

unfoldable pub convert_left : Edition → List ℕ → List ℕ → List ℕ
convert_left ed l out = left out (converted ed l)

-- what a caller sees: the converter accepts, and leaves the ledger l' at the buffer's start
pub record Moved (ed : Edition) (l out l' : List ℕ) : Type 0 where
  pub accepts : number_of (convert_answer ed l (length out)) ≡ 0
  pub result : result_in (convert_answer ed l (length out)) (convert_left ed l out) ≡ l'
