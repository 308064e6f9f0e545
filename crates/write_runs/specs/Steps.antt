-- What a step over fields answers.
-- Assumes nothing: these are definitions.
use Rattle.std.specs.Prelude.{ℕ, Result, Ok, Err}
use Rattle.format.specs.declared.Refusal.{Refusal}
use Rattle.write_runs.specs.declared.step.Step.{Step}

-- the last number of a step; 0 of one that is refused
abbrev pub last_of : Result Step Refusal → ℕ
last_of (Ok x) = x.last
last_of (Err f) = 0
