-- A whole entry of a ledger laid as a body: as `Came` and `Laid` have it, but that a plan's length is laid too, to
-- which in the first edition nothing can be joined. And the parts of a plan: its length, its end.
-- Assumes nothing: these are definitions.
use Rattle.std.specs.Prelude.{ℕ, ◌+◌, ◌*◌, ◌≤◌, ◌≡◌, Bool, true, cond, ◌&&◌, eqb, ltb, List, length, drop, Result, Ok, Err}
use Rattle.format.specs.Digits.{bits_of, splice}
use Rattle.format.specs.Syntax.{unsigned, Syntax, end, field, plan, Field, got}
use Rattle.format.specs.declared.Edition.{Edition}
use Rattle.format.specs.declared.Edition.TheVariants.{First, Second}
use Rattle.format.specs.Tables.{hopping}
use Rattle.format.specs.declared.Refusal.{Refusal}
use Rattle.format.specs.Body.{laid}
use Rattle.format.specs.Ledger.{read_ledger}
use Rattle.read_runs.specs.declared.step.Step.{Step}
use Rattle.read_runs.specs.Came.{Way, way_of, Came, Halted, Laid}

-- s is read to its end, and its fields are laid in the body, if that has room for them
pub record Took (way : Way) (l : List ℕ) (s : Syntax) (place at : ℕ) (out : List ℕ) (place' at' : ℕ) (out' : List ℕ) : Type 0 where
  pub ts : List Field
  pub reads : read_ledger way.edition way.last (length l) s (drop place l) ≡ got ts (drop place' l)
  pub size : at' ≡ at + length (laid way.edition ts)
  pub bits : at' ≤ 8 * length out → bits_of out' ≡ splice (bits_of out) at (laid way.edition ts)
  pub long : length out' ≡ length out
  pub within : place' ≤ length l
  pub slack : at' + 8 * place ≤ at + 8 * place'

-- the same for a step, which is one of the same ledger
pub record Finished (way : Way) (l : List ℕ) (s : Syntax) (place at : ℕ) (out : List ℕ) (x : Step) (out' : List ℕ) : Type 0 where
  pub same : x.ledger.now ≡ l
  pub took : Took way l s place at out x.place x.at out'

abbrev pub TakenTo : Way → List ℕ → Syntax → ℕ → ℕ → List ℕ → List ℕ → Result Step Refusal → Type 0
TakenTo way l s place at out out' (Ok x) = Finished way l s place at out x out'
TakenTo way l s place at out out' (Err f) = Halted way l s place f

pub record Taken (way : Way) (l : List ℕ) (s : Syntax) (place at : ℕ) (out out' : List ℕ) (r : Result Step Refusal) : Type 0 where
  pub to : TakenTo way l s place at out out' r

-- the same from where a step came to
abbrev pub TakenFrom : Way → Step → Syntax → List ℕ → List ℕ → Result Step Refusal → Type 0
TakenFrom way x s out out' r = Taken way x.ledger.now s x.place x.at out out' r

-- eight bits fewer than the bytes have: in the first edition a plan's length takes the bits, and no bytes
abbrev pub SparedTo : ℕ → ℕ → Result Step Refusal → Type 0
SparedTo place at (Ok x) = x.at + 8 * place + 8 ≤ at + 8 * x.place
SparedTo place at (Err f) = Unit {0}

pub record Spared (place at : ℕ) (r : Result Step Refusal) : Type 0 where
  pub to : SparedTo place at r

-- `leaves` by numbers: a plan of v bytes, k bits of fields, f of filler, and the mode; 104 bits are the 13 bytes in
-- front of raw ones
unfoldable pub leaves_by : Bool → ℕ → ℕ → ℕ → ℕ → Bool
leaves_by last v k f mode =
    cond (eqb (k + f) (8 * v)) (cond (eqb mode 3) (eqb f 0) true)
    (last && (ltb (k + f) (8 * v) && cond (eqb mode 3) (eqb k 104) true))

-- a step over 12 bits and 2 bytes
abbrev pub AheadTo : ℕ → ℕ → Result Step Refusal → Type 0
AheadTo place at (Ok x) = (x.at ≡ at + 12) × (x.place ≡ place + 2)
AheadTo place at (Err f) = Unit {0}

-- a step over 12 bits that stays where it is in the ledger
abbrev pub OverTo : List ℕ → ℕ → ℕ → Result Step Refusal → Type 0
OverTo l place at (Ok x) = (x.ledger.now ≡ l) × ((x.at ≡ at + 12) × ((x.place ≡ place) × (x.last ≡ 0)))
OverTo l place at (Err f) = ⊥

-- a plan's length gone over: in the first edition its bits are left open, in the second it is a field
abbrev pub OpenedTo : Edition → List ℕ → ℕ → ℕ → List ℕ → List ℕ → Result Step Refusal → Type 0
OpenedTo First l place at out out' r = OverTo l place at r × (out' ≡ out)
OpenedTo Second l place at out out' r =
    ((way : Way) (k : Syntax) → Laid way l (field unsigned "plan_length" 12 (λ _. k)) place at out (λ _. k) out' r) × AheadTo place at r

pub record Opened (ed : Edition) (l : List ℕ) (place at : ℕ) (out out' : List ℕ) (r : Result Step Refusal) : Type 0 where
  pub to : OpenedTo ed l place at out out' r

-- The end of a plan of the second edition, behind whatever came before it. start, begin: the places of its length in
-- the ledger and, in bits, in the body
pub record Closed (last : Bool) (l : List ℕ) (start begin place at : ℕ) (out out' : List ℕ) (r : Result Step Refusal) : Type 0 where
  pub to : (s : Syntax) (place₀ at₀ : ℕ) (out₀ out₁ : List ℕ) → Came (way_of Second last) l s place₀ at₀ out₀ (plan "plan_length" hopping) start begin out₁
      → Came (way_of Second last) l (field unsigned "plan_length" 12 (λ _. hopping)) start begin out₁ end place at out → Taken (way_of Second last) l s place₀ at₀ out₀ out' r
