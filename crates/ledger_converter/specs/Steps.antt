-- A ledger's content gone through, and laid in another edition. Nothing public rests on these.
-- Assumes nothing: these are definitions.
use Rattle.std.specs.Prelude.{ℕ, ◌≤◌, ◌≡◌, List, [], ◌++◌, length, take, drop, Result, Ok, Err}
use Rattle.format.specs.Digits.{value}
use Rattle.format.specs.Syntax.{Field, Parse, got, refused}
use Rattle.format.specs.declared.Edition.{Edition}
use Rattle.format.specs.declared.Refusal.{Refusal}
use Rattle.format.specs.Tables.{beamhopping}
use Rattle.format.specs.Whole.{ledgers, counted, id_of}
use Rattle.format.specs.Convert.{lossless, converted}
use Rattle.runs.specs.Appended.{AppendedAt, LedgerLaid}

-- plans behind their count, all of a ledger
pub record PlansThere (ed : Edition) (l : List ℕ) : Type 0 where
  pub es : List (List Field)
  pub reads : counted ed (length l) beamhopping (value 256 (take 2 (drop 4 l))) (drop 6 l) ≡ got es []
  pub count : 6 ≤ length l
  pub short : length l ≤ 65537

-- they are laid behind their count in the edition that is wanted, or refused since that lacks something
abbrev pub PlansIn : Edition → List (List Field) → List ℕ → List ℕ → List ℕ → Result ℕ Refusal → Type 0
PlansIn ed es l out out' (Ok n) =
    ((p : Parse (List ℕ)) → lossless ed es p ≡ p) × AppendedAt (take 2 (drop 4 l) ++ ledgers ed es) 4 out out' n
PlansIn ed es l out out' (Err f) = (p : Parse (List ℕ)) → lossless ed es p ≡ refused f.fault f.need f.have

pub record Plans (from ed : Edition) (l out out' : List ℕ) (r : Result ℕ Refusal) : Type 0 where
  pub to : (es : List (List Field))
      → counted from (length l) beamhopping (value 256 (take 2 (drop 4 l))) (drop 6 l) ≡ got es []
      → PlansIn ed es l out out' r

-- what stands behind the table id once it is converted, laid behind four bytes, or the refusal
abbrev pub ContentIn : Edition → List ℕ → List ℕ → List ℕ → Result ℕ Refusal → Type 0
ContentIn ed l out out' (Ok n) = LedgerLaid ed (id_of l) (converted ed l) out out' n
ContentIn ed l out out' (Err f) = converted ed l ≡ refused f.fault f.need f.have

pub record Content (ed : Edition) (l out out' : List ℕ) (r : Result ℕ Refusal) : Type 0 where
  pub to : ContentIn ed l out out' r
