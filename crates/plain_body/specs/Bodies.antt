-- What the calls for the plain body and the kept body of a body answer, and what they leave in the buffer that is lent.
-- Assumes nothing: these are definitions.
use Rattle.std.specs.Prelude.{ℕ, List, Result}
use Rattle.format.specs.declared.Edition.{Edition}
use Rattle.format.specs.Calls.{answer, left, relaid}
use Rattle.format.specs.declared.Refusal.{Refusal}
use Rattle.format.specs.declared.Output.{Output}
use Rattle.ledger_reader.specs.Measured.{measured}

-- the plain body (edition 1) or the kept body (edition 2) of a table id and a body, with the buffer, or its length
unfoldable pub body_answer : Edition → ℕ → List ℕ → ℕ → Result Output Refusal
body_answer ed id b room = answer id room (relaid ed id b)

unfoldable pub body_left : Edition → ℕ → List ℕ → List ℕ → List ℕ
body_left ed id b out = left out (relaid ed id b)

-- its table id and its length, or the body's refusal
unfoldable pub body_measure : Edition → ℕ → List ℕ → Result Output Refusal
body_measure ed id b = measured id (relaid ed id b)
