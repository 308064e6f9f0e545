-- Going through a body by a description and writing its ledger on the way.
-- Assumes nothing: these are definitions.
use Rattle.std.specs.Prelude.{ℕ, ◌+◌, ◌*◌, ◌≤◌, ◌≡◌, List, [], ◌∷◌, length, drop, Result, Ok, Err}
use Rattle.format.specs.Digits.{bits_of, splice}
use Rattle.format.specs.Syntax.{Syntax, Field, Parse, refused, push}
use Rattle.format.specs.declared.Edition.{Edition}
use Rattle.format.specs.Body.{read_body}
use Rattle.format.specs.Ledger.{ledger}
use Rattle.format.specs.declared.Refusal.{Refusal}
use Rattle.runs.specs.Lines.{widths_of, sizes_of}
use Rattle.write_runs.specs.declared.step.Step.{Step}

-- fields in front of what an answer has
unfoldable pub pushes : List Field → Parse (List Field) → Parse (List Field)
pushes [] p = p
pushes (t ∷ ts) p = push t (pushes ts p)

-- what is around: the ledger's edition, and the end of the plan, 0 where there is none
pub record Around : Type 0 where
  pub edition : Edition
  pub stop : ℕ

-- an entry, or what has no plan around it
abbrev pub outside : Edition → Around
outside ed = record { edition = ed; stop = 0 }

-- what stands within a plan
abbrev pub inside : Edition → ℕ → Around
inside ed stop = record { edition = ed; stop = stop }

-- From s at one place of the body to s' at another: the fields between are in the ledger, if that has room for them.
pub record Went (body : List ℕ) (e : Around) (s : Syntax) (at place : ℕ) (out : List ℕ) (s' : Syntax) (at' place' : ℕ) (out' : List ℕ) : Type 0 where
  pub ts : List Field
  pub reads : read_body (8 * length body) e.stop s (drop at (bits_of body)) ≡ pushes ts (read_body (8 * length body) e.stop s' (drop at' (bits_of body)))
  pub size : place' ≡ place + length (ledger e.edition ts)
  pub bytes : place' ≤ length out → out' ≡ splice out place (ledger e.edition ts)
  pub long : length out' ≡ length out
  pub within : at' ≤ 8 * length body
  pub slack : place' + at ≤ place + at'

-- s is refused
pub record Stopped (body : List ℕ) (e : Around) (s : Syntax) (at : ℕ) (f : Refusal) : Type 0 where
  pub reads : read_body (8 * length body) e.stop s (drop at (bits_of body)) ≡ refused f.fault f.need f.have

-- what a step says: it came, in the same body, to the place at which k goes on from the last number, or s is refused
abbrev pub RanTo : List ℕ → Around → Syntax → ℕ → ℕ → List ℕ → (ℕ → Syntax) → List ℕ → Result Step Refusal → Type 0
RanTo body e s at place out k out' (Ok x) = (x.body.now ≡ body) × Went body e s at place out (k x.last) x.at x.place out'
RanTo body e s at place out k out' (Err f) = Stopped body e s at f

pub record Ran (body : List ℕ) (e : Around) (s : Syntax) (at place : ℕ) (out : List ℕ) (k : ℕ → Syntax) (out' : List ℕ) (r : Result Step Refusal) : Type 0 where
  pub to : RanTo body e s at place out k out' r

-- the same from where another step came to
abbrev pub RanFrom : Step → Around → Syntax → List ℕ → (ℕ → Syntax) → List ℕ → Result Step Refusal → Type 0
RanFrom x e s out k out' r = Ran x.body.now e s x.at x.place out k out' r

-- from two places to two others, which are behind the whole run
abbrev pub Behind : ℕ → ℕ → List ℕ → ℕ → ℕ → Type 0
Behind at place cs at' place' = (at' ≡ at + widths_of cs) × (place' ≡ place + sizes_of cs)

-- a step that is done went over the whole run
abbrev pub MovedTo : ℕ → ℕ → List ℕ → Result Step Refusal → Type 0
MovedTo at place cs (Ok x) = Behind at place cs x.at x.place
MovedTo at place cs (Err f) = Unit {0}

pub record Moved (at place : ℕ) (cs : List ℕ) (r : Result Step Refusal) : Type 0 where
  pub to : MovedTo at place cs r
