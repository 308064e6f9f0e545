-- A plan of a ledger in its parts. Nothing public rests on these.
-- Assumes nothing: these are definitions.
use Rattle.std.specs.Prelude.{ℕ, ◌+◌, ◌/◌, ◌≤◌, ◌≡◌, Bool, true, ◌&&◌, eqb, List, ◌++◌, length, drop, Result, Ok, Err}
use Rattle.format.specs.Digits.{digits}
use Rattle.format.specs.Syntax.{Field, got}
use Rattle.format.specs.declared.Edition.{Edition}
use Rattle.format.specs.declared.Edition.TheVariants.{First, Second}
use Rattle.format.specs.declared.Refusal.{Refusal}
use Rattle.format.specs.Tables.{hopping, beamhopping}
use Rattle.format.specs.Body.{plain}
use Rattle.format.specs.Ledger.{ledger, read_ledger}
use Rattle.format.specs.Convert.{exact}
use Rattle.ledger_converter.specs.declared.Fields.{Fields}
use Rattle.ledger_converter.specs.declared.Plan.{Plan}

-- a plan's bytes in an edition, by its parts
abbrev pub bytes_in : Edition → Plan → List ℕ
bytes_in First p = p.head.now ++ p.fields.bytes.now
bytes_in Second p =
    p.head.now ++ (digits 256 2 p.length
    ++ (p.fields.bytes.now ++ (digits 256 2 (length p.filler.now) ++ p.filler.now)))

-- whether an edition has all of it
abbrev pub has_all : Edition → Plan → Bool
has_all First p = eqb p.length p.fields.exact && eqb (length p.filler.now) 0
has_all Second p = true

-- the fields within a plan, us, whose bytes are the same in each edition
pub record FieldsOf (l : List ℕ) (start : ℕ) (us : List Field) (rest : List ℕ) (f : Fields) : Type 0 where
  pub bytes : (ed : Edition) → ledger ed us ≡ f.bytes.now
  pub exact : f.exact ≡ length (plain us) / 8
  pub behind : rest ≡ drop f.end l

abbrev pub FieldsTo : List ℕ → ℕ → Result Fields Refusal → Type 0
FieldsTo l start (Ok f) = (f.end ≡ start + length f.bytes.now) × (f.end ≤ length l)
FieldsTo l start (Err f) = Unit {0}

abbrev pub FieldsIn : List ℕ → ℕ → List Field → List ℕ → Result Fields Refusal → Type 0
FieldsIn l start us rest (Ok f) = FieldsOf l start us rest f
FieldsIn l start us rest (Err f) = ⊥

-- whatever is read there
pub record FieldsAt (l : List ℕ) (start : ℕ) (r : Result Fields Refusal) : Type 0 where
  pub to : FieldsTo l start r
  pub of : (ed : Edition) (last : Bool) (us : List Field) (rest : List ℕ)
      → read_ledger ed last (length l) hopping (drop start l) ≡ got us rest → FieldsIn l start us rest r

-- a plan is read at a place of a ledger
pub record PlanThere (ed : Edition) (l : List ℕ) (place : ℕ) : Type 0 where
  pub last : Bool
  pub ts : List Field
  pub rest : List ℕ
  pub reads : read_ledger ed last (length l) beamhopping (drop place l) ≡ got ts rest
  pub within : place ≤ length l
  pub short : length l ≤ 65537

-- the parts of its fields, whose bytes are known in each edition
pub record PartsOf (l : List ℕ) (place : ℕ) (ts : List Field) (rest : List ℕ) (p : Plan) : Type 0 where
  pub bytes : (ed : Edition) → ledger ed ts ≡ bytes_in ed p
  pub exact : exact ts ≡ has_all First p
  pub behind : rest ≡ drop p.next l
  pub within : p.next ≤ length l
  pub size : place + (length p.head.now + (length p.fields.bytes.now + length p.filler.now)) ≤ p.next

abbrev pub PlanIn : List ℕ → ℕ → List Field → List ℕ → Result Plan Refusal → Type 0
PlanIn l place ts rest (Ok p) = PartsOf l place ts rest p
PlanIn l place ts rest (Err f) = ⊥

-- whatever is read there
pub record PlanAt (ed : Edition) (l : List ℕ) (place : ℕ) (r : Result Plan Refusal) : Type 0 where
  pub to : (last : Bool) (ts : List Field) (rest : List ℕ)
      → read_ledger ed last (length l) beamhopping (drop place l) ≡ got ts rest → PlanIn l place ts rest r
