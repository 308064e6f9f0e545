-- What the innermost functions say, which answer where a run ended and leave the ledger out. Nothing public rests on it.
-- Assumes nothing: these are definitions.
use Rattle.std.specs.Prelude.{ℕ, List, Result, Ok, Err}
use Rattle.format.specs.Syntax.{Syntax}
use Rattle.format.specs.declared.Refusal.{Refusal}
use Rattle.runs.specs.declared.RunEnd.{RunEnd}
use Rattle.read_runs.specs.Came.{Way, Came, Halted}

-- it ended at the place at which k goes on from the last number, or s is refused
abbrev pub EndedTo : Way → List ℕ → Syntax → ℕ → ℕ → List ℕ → (ℕ → Syntax) → List ℕ → Result (RunEnd ℕ) Refusal → Type 0
EndedTo way l s place at out k out' (Ok x) = Came way l s place at out (k x.last) x.place x.at out'
EndedTo way l s place at out k out' (Err f) = Halted way l s place f

pub record Ended (way : Way) (l : List ℕ) (s : Syntax) (place at : ℕ) (out : List ℕ) (k : ℕ → Syntax) (out' : List ℕ) (r : Result (RunEnd ℕ) Refusal) : Type 0 where
  pub to : EndedTo way l s place at out k out' r
