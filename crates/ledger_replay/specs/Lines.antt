-- How many bytes of the buffer a line takes.
-- Assumes nothing: this is a definition.
use Rattle.std.specs.Prelude.{ℕ, Result, Ok, Err}
use Rattle.ledger_replay.specs.declared.NoCase.{NoCase}

-- a case's bytes; none of what is no case
abbrev pub case_size : Result ℕ NoCase → ℕ
case_size (Ok n) = n
case_size (Err e) = 0
