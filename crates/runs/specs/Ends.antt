-- What going over a run of fields answers, in either direction.
-- Assumes nothing: these are definitions.
use Rattle.std.specs.Prelude.{ℕ, Result, Ok, Err}
use Rattle.format.specs.declared.Refusal.{Refusal}
use Rattle.runs.specs.declared.RunEnd.{RunEnd}

-- where a run ended: its place in the body and in the ledger, and the last number
abbrev pub ended_at : ℕ → ℕ → ℕ → Result (RunEnd ℕ) Refusal
ended_at at place v = Ok (record { at = at; place = place; last = v })

-- the last number of a run; 0 of one that is refused
abbrev pub end_last : Result (RunEnd ℕ) Refusal → ℕ
end_last (Ok x) = x.last
end_last (Err f) = 0
