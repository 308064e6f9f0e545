-- What the innermost functions say, which answer where a run ended and leave the body out. Nothing public rests on it.
-- Assumes nothing: these are definitions.
use Rattle.std.specs.Prelude.{ℕ, List, Result, Ok, Err}
use Rattle.format.specs.Syntax.{Syntax}
use Rattle.format.specs.declared.Refusal.{Refusal}
use Rattle.runs.specs.declared.RunEnd.{RunEnd}
use Rattle.write_runs.specs.Went.{Around, Went, Stopped, Behind}

-- it ended at the place at which k goes on from the last number, or s is refused
abbrev pub EndedTo : List ℕ → Around → Syntax → ℕ → ℕ → List ℕ → (ℕ → Syntax) → List ℕ → Result (RunEnd ℕ) Refusal → Type 0
EndedTo body e s at place out k out' (Ok x) = Went body e s at place out (k x.last) x.at x.place out'
EndedTo body e s at place out k out' (Err f) = Stopped body e s at f

pub record Ended (body : List ℕ) (e : Around) (s : Syntax) (at place : ℕ) (out : List ℕ) (k : ℕ → Syntax) (out' : List ℕ) (r : Result (RunEnd ℕ) Refusal) : Type 0 where
  pub to : EndedTo body e s at place out k out' r

-- and where it ended is behind the whole run
abbrev pub OverTo : ℕ → ℕ → List ℕ → Result (RunEnd ℕ) Refusal → Type 0
OverTo at place cs (Ok x) = Behind at place cs x.at x.place
OverTo at place cs (Err f) = Unit {0}

pub record Over (at place : ℕ) (cs : List ℕ) (r : Result (RunEnd ℕ) Refusal) : Type 0 where
  pub to : OverTo at place cs r
