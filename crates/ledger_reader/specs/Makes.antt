-- What the measure of a ledger says for the calls that make a ledger of it. Nothing public rests on these.
-- Assumes nothing: these are definitions.
use Rattle.std.specs.Prelude.{ℕ, ◌≤◌, ◌≡◌, List, [], length, Result, Ok, Err}
use Rattle.format.specs.Syntax.{Parse, got}
use Rattle.format.specs.declared.Edition.{Edition}
use Rattle.format.specs.declared.Refusal.{Refusal}
use Rattle.format.specs.Whole.{Table, id_of, edition_of, ledger_read}
use Rattle.ledger_reader.specs.declared.Measured.{Measured}
use Rattle.ledger_reader.specs.Measured.{measured}

-- a ledger is read, in its edition and under its id
pub record ReadAs (ed : Edition) (id : ℕ) (l : List ℕ) : Type 0 where
  pub table : Table
  pub reads : ledger_read l ≡ got table []
  pub edition : ed ≡ edition_of l
  pub named : id ≡ id_of l
  pub four : 4 ≤ length l
  pub short : length l ≤ 65537

-- the measure of what a call makes of a ledger, p, with the ledger's edition beside it
abbrev pub MakesTo : List ℕ → Parse (List ℕ) → Result Measured Refusal → Type 0
MakesTo l p (Ok m) = ReadAs m.edition m.output.table_id l × (Ok m.output ≡ measured (id_of l) p)
MakesTo l p (Err f) = Err f ≡ measured (id_of l) p

pub record Makes (l : List ℕ) (p : Parse (List ℕ)) (r : Result Measured Refusal) : Type 0 where
  pub to : MakesTo l p r
