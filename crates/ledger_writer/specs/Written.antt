-- A ledger's content as a step over a body writes it, and the answer to how long a ledger is.
-- Assumes nothing: these are definitions.
use Rattle.std.specs.Prelude.{ℕ, ◌+◌, ◌*◌, ◌≤◌, ◌≡◌, List, [], length, Result, Ok, Err}
use Rattle.format.specs.Digits.{splice}
use Rattle.format.specs.Refusals.{refuse}
use Rattle.format.specs.Syntax.{Parse, got, refused}
use Rattle.format.specs.declared.Edition.{Edition}
use Rattle.format.specs.Whole.{Table, layout, read_as, content_of}
use Rattle.format.specs.Calls.{filed}
use Rattle.format.specs.declared.Refusal.{Refusal}
use Rattle.write_runs.specs.declared.step.Step.{Step}

-- the content of p bytes is at the ledger's start, if that has room for it
pub record Filled (ed : Edition) (body : List ℕ) (id : ℕ) (out : List ℕ) (p : ℕ) (out' : List ℕ) : Type 0 where
  pub t : Table
  pub reads : read_as (layout id) body ≡ got t []
  pub size : p ≡ length (content_of ed t)
  pub bytes : p ≤ length out → out' ≡ splice out 0 (content_of ed t)
  pub small : p ≤ 8 * length body + 8

-- the body is refused
pub record Unread (body : List ℕ) (id : ℕ) (f : Refusal) : Type 0 where
  pub reads : read_as (layout id) body ≡ refused f.fault f.need f.have

-- what a step over the body says
abbrev pub ContentIn : Edition → List ℕ → ℕ → List ℕ → List ℕ → Result Step Refusal → Type 0
ContentIn ed body id out out' (Ok x) = Filled ed body id out x.place out'
ContentIn ed body id out out' (Err f) = Unread body id f

pub record Content (ed : Edition) (body : List ℕ) (id : ℕ) (out out' : List ℕ) (r : Result Step Refusal) : Type 0 where
  pub to : ContentIn ed body id out out' r

-- the length of a ledger, or the refusal
unfoldable pub size_in : Parse (List ℕ) → Result ℕ Refusal
size_in (got xs rest) = Ok (length xs)
size_in (refused fault needed had) = Err (refuse fault needed had)

-- how long the ledger of a body is in an edition
unfoldable pub size_answer : Edition → ℕ → List ℕ → Result ℕ Refusal
size_answer ed id b = size_in (filed ed id b)
