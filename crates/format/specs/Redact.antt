-- S-31: an ephemeris ledger without covariance, and the call that makes it.
-- Assumes nothing: these are definitions.
use Rattle.std.specs.Prelude.{ℕ, ◌≡◌, Bool, true, false, cond, not, ◌||◌, List, [], ◌∷◌, map, filter, eqb, length, Result}
use lib.Text.{eqt}
use Rattle.format.specs.Syntax.{Name, Field, num, flags, bytes, len, filler, Parse, got, and_then}
use Rattle.format.specs.ByName.{name, number_in}
use Rattle.format.specs.Whole.{Table, one, list, as_it_is, ledger_of, id_of, edition_of, ledger_read}
use Rattle.format.specs.Calls.{number_of, answer, left, result_in}
use Rattle.format.specs.declared.Refusal.{Refusal}
use Rattle.format.specs.declared.Output.{Output}

-- "covariance flags and parts": the flag; and the part, which is a stamp and 21 values
unfoldable pub is_flag : Name → Bool
is_flag nm = eqt nm "covariance_flag"

unfoldable pub is_part : Name → Bool
is_part nm =
    eqt nm "covariance_epoch_year" || (eqt nm "covariance_epoch_reserved_zero_future_use"
    || (eqt nm "covariance_epoch_day" || (eqt nm "covariance_epoch_day_fraction" || eqt nm "covariance_elements")))

-- a field whose number is 0 now; one that is no number stays
abbrev pub zeroed : Field → Field
zeroed (num g nm w v) = num g nm w 0
zeroed (flags nm bs) = flags nm bs
zeroed (bytes nm bs) = bytes nm bs
zeroed (len nm v) = len nm v
zeroed (filler fs) = filler fs

-- a satellite's fields without covariance: "the flag byte 0 and the part gone", "all else kept"
unfoldable pub redact : List Field → List Field
redact [] = []
redact (t ∷ ts) = cond (is_part (name t)) (redact ts) (cond (is_flag (name t)) (zeroed t) t ∷ redact ts)

-- all of its fields but these
unfoldable pub others : List Field → List Field
others ts = filter (λ t. not (is_part (name t) || is_flag (name t))) ts

-- each entry's fields made into others; a header stays
abbrev pub each : (List Field → List Field) → Table → Table
each f (one ts) = one ts
each f (list hs es) = list hs (map f es)
each f (as_it_is b) = as_it_is b

-- "for every satellite"; under another id than 4 all stays as it is
unfoldable pub satellites : (List Field → List Field) → ℕ → Table → Table
satellites f id t = cond (eqb id 4) (each f t) t

-- a field that has nothing of covariance: it is not of the part, and if it is the flag, its number is 0
pub record Clean (t : Field) : Type 0 where
  pub no_part : is_part (name t) ≡ false
  pub zero_flag : is_flag (name t) ≡ true → number_in t ≡ 0

-- the ledger's copy without covariance, in its own edition; or the ledger's refusal
unfoldable pub redacted : List ℕ → Parse (List ℕ)
redacted l =
    and_then (ledger_read l) (λ t rest. got (ledger_of (edition_of l) (id_of l) (satellites redact (id_of l) t)) [])

-- ---- the call: a ledger and the buffer, or its length; 22 names the copy's length

unfoldable pub redact_answer : List ℕ → ℕ → Result Output Refusal
redact_answer l room = answer (id_of l) room (redacted l)

unfoldable pub redact_left : List ℕ → List ℕ → List ℕ
redact_left l out = left out (redacted l)

-- what a caller sees: the call accepts, and leaves the copy l' at the buffer's start
pub record Copied (l out l' : List ℕ) : Type 0 where
  pub accepts : number_of (redact_answer l (length out)) ≡ 0
  pub result : result_in (redact_answer l (length out)) (redact_left l out) ≡ l'

-- "two accepted ledgers that differ only in covariance flags and parts, and so in length": of one id and one edition,
-- both are read, and all their other fields are the same
pub record SameOthers (l l' : List ℕ) : Type 0 where
  pub table : Table
  pub table' : Table
  pub reads : ledger_read l ≡ got table []
  pub reads' : ledger_read l' ≡ got table' []
  pub id : id_of l ≡ id_of l'
  pub edition : edition_of l ≡ edition_of l'
  pub rest : satellites others (id_of l) table ≡ satellites others (id_of l') table'
