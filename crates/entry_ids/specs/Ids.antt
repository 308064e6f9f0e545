-- What the call for the ids of a body's entries answers, and what it leaves in the buffer that is lent.
-- Assumes nothing: these are definitions.
use Rattle.std.specs.Prelude.{ℕ, ◌≡◌, List, [], length, drop, Result}
use Rattle.format.specs.Syntax.{Parse, got, and_then}
use Rattle.format.specs.Whole.{body_read}
use Rattle.format.specs.Calls.{answer, left, number_of, length_of, result_in}
use Rattle.format.specs.Added.{entry_ids, first_of_each, Distinct, InOrder}
use Rattle.format.specs.declared.Refusal.{Refusal}
use Rattle.format.specs.declared.Output.{Output}

-- document 01's roll, in the order of S-10: of the ids of a body's entries each where it first stands, or the body's
-- refusal
unfoldable pub ids_of : ℕ → List ℕ → Parse (List ℕ)
ids_of id b = and_then (body_read id b) (λ t rest. got (first_of_each (entry_ids id t)) [])

-- a table id, a body and the buffer, or how many ids it holds
unfoldable pub ids_answer : ℕ → List ℕ → ℕ → Result Output Refusal
ids_answer id b room = answer id room (ids_of id b)

unfoldable pub ids_left : ℕ → List ℕ → List ℕ → List ℕ
ids_left id b out = left out (ids_of id b)

-- what the papers promise of an answer and the buffer afterwards, given the ids of all entries and the buffer before
pub record Listed (ids out : List ℕ) (a : Result Output Refusal) (out' : List ℕ) : Type 0 where
  pub accepts : number_of a ≡ 0
  pub size : length_of a ≡ length (result_in a out')
  pub distinct : Distinct ids (result_in a out')
  pub ordered : InOrder ids (result_in a out')
  pub behind : drop (length_of a) out' ≡ drop (length_of a) out
