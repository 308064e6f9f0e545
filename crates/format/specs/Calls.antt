-- What the calls answer that fill a lent buffer, the ledger's writers and reader first, and what they leave in it.
-- Assumes nothing: these are definitions.
use Rattle.std.specs.Prelude.{ℕ, ◌≤◌, ◌≡◌, cond, List, [], leb, length, take, Result, Ok, Err}
use Rattle.format.specs.Digits.{splice}
use Rattle.format.specs.Refusals.{fault_number, refuse}
use Rattle.format.specs.Syntax.{Parse, got, refused, and_then}
use Rattle.format.specs.declared.Edition.{Edition}
use Rattle.format.specs.Whole.{body_read, body_of, ledger_of, id_of, edition_of, ledger_read}
use Rattle.format.specs.declared.Refusal.{Refusal}
use Rattle.format.specs.declared.Output.{Output}
use Rattle.format.specs.declared.Fault.TheVariants.{BufferTooShort}

-- ---- an answer's numbers, one for each call from C; 0 where there is none

unfoldable pub number_of : Result Output Refusal → ℕ
number_of (Ok o) = 0
number_of (Err f) = fault_number f.fault

unfoldable pub need_of : Result Output Refusal → ℕ
need_of (Ok o) = 0
need_of (Err f) = f.need

unfoldable pub have_of : Result Output Refusal → ℕ
have_of (Ok o) = 0
have_of (Err f) = f.have

unfoldable pub table_id_of : Result Output Refusal → ℕ
table_id_of (Ok o) = o.table_id
table_id_of (Err f) = 0

unfoldable pub length_of : Result Output Refusal → ℕ
length_of (Ok o) = o.length
length_of (Err f) = 0

-- ---- a result and the buffer that is lent for it

-- a result of so many units for a table id
abbrev pub done : ℕ → ℕ → Result Output Refusal
done id n = Ok (record { table_id = id; length = n })

-- the answer, where room is the buffer's length, counted as the result is (bytes, or ids): 22 if the result is longer
unfoldable pub answer : ℕ → ℕ → Parse (List ℕ) → Result Output Refusal
answer id room (got xs rest) = cond (leb (length xs) room) (done id (length xs)) (Err (refuse BufferTooShort (length xs) room))
answer id room (refused fault needed had) = Err (refuse fault needed had)

-- r answers every result of this length
pub record Fitted (id size room : ℕ) (r : Result Output Refusal) : Type 0 where
  pub is : (xs rest : List ℕ) → size ≡ length xs → r ≡ answer id room (got xs rest)

-- the buffer afterwards: the result and behind it the old values; all old values after a refusal
unfoldable pub left : List ℕ → Parse (List ℕ) → List ℕ
left out (got xs rest) = cond (leb (length xs) (length out)) (splice out 0 xs) out
left out (refused fault needed had) = out

-- the result in the buffer that a call left
abbrev pub result_in : Result Output Refusal → List ℕ → List ℕ
result_in a out = take (length_of a) out

-- "large enough": no shorter than the result, where there is one
abbrev pub Enough : ℕ → Parse (List ℕ) → Type 0
Enough room (got xs rest) = length xs ≤ room
Enough room (refused fault needed had) = Unit {0}

-- ---- the writers and the reader

-- the ledger of a body in an edition, or the body's refusal
unfoldable pub filed : Edition → ℕ → List ℕ → Parse (List ℕ)
filed ed id b = and_then (body_read id b) (λ t rest. got (ledger_of ed id t) [])

-- the plain (edition 1) or kept (edition 2) body of a body, or the body's refusal
unfoldable pub relaid : Edition → ℕ → List ℕ → Parse (List ℕ)
relaid ed id b = and_then (body_read id b) (λ t rest. got (body_of ed t) [])

-- the plain (edition 1) or kept (edition 2) body of a ledger, or the ledger's refusal
unfoldable pub restored : List ℕ → Parse (List ℕ)
restored l = and_then (ledger_read l) (λ t rest. got (body_of (edition_of l) t) [])

-- an edition, a table id, a body and the buffer, or its length
unfoldable pub write_answer : Edition → ℕ → List ℕ → ℕ → Result Output Refusal
write_answer ed id b room = answer id room (filed ed id b)

unfoldable pub write_left : Edition → ℕ → List ℕ → List ℕ → List ℕ
write_left ed id b out = left out (filed ed id b)

-- a ledger and the buffer, or its length
unfoldable pub read_answer : List ℕ → ℕ → Result Output Refusal
read_answer l room = answer (id_of l) room (restored l)

unfoldable pub read_left : List ℕ → List ℕ → List ℕ
read_left l out = left out (restored l)

-- ---- what a caller sees

-- an edition's writer, given a table id, a body and a buffer, accepts and leaves l at the buffer's start
pub record Wrote (ed : Edition) (id : ℕ) (b out l : List ℕ) : Type 0 where
  pub accepts : number_of (write_answer ed id b (length out)) ≡ 0
  pub result : result_in (write_answer ed id b (length out)) (write_left ed id b out) ≡ l

-- it refuses, and leaves the buffer as it was
pub record Denied (ed : Edition) (id : ℕ) (b out : List ℕ) (f : Refusal) : Type 0 where
  pub refuses : write_answer ed id b (length out) ≡ Err f
  pub keeps : write_left ed id b out ≡ out

-- the reader, given a ledger and a buffer, accepts, names the table id, and leaves the body b at the buffer's start
pub record Gave (l out : List ℕ) (id : ℕ) (b : List ℕ) : Type 0 where
  pub accepts : number_of (read_answer l (length out)) ≡ 0
  pub table_id_is : table_id_of (read_answer l (length out)) ≡ id
  pub result : result_in (read_answer l (length out)) (read_left l out) ≡ b
