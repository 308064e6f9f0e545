-- How a table is described, and what reading by a description gives.
-- Assumes nothing: these are definitions.
use Rattle.std.specs.Prelude.{ℕ, Bool, List, [], ◌∷◌}
use Prim.Native.String.{String}
use Rattle.format.specs.declared.Fault.{Fault}
use Rattle.format.specs.declared.Edition.{Edition}
use Rattle.format.specs.declared.Edition.TheVariants.{First, Second}

-- a field's name, in the Rust's words
abbrev pub Name : Type 0
Name = String

pub data Sign : Type 0 where
  unsigned signed : Sign

-- What comes next in a body. What follows a field may depend on its value.
--   field g nm w k   nm, w bits that spell a number (signed: in two's complement); then k of the number that they spell
--   when t k l       k where t holds, else l
--   need a w k       refusal a unless w bits remain
--   at_most a v m k   refusal a, with v and m, unless v is at most m; only a body's reading tests it, and no ledger's
--   slots nm a m k   refusal a unless m bits remain; then nm, m single bits, and padding to the byte
--   plan nm k        nm, 12 bits: how many bytes the plan has behind them; then k, which must not pass that end, and
--                    filler up to it
--   raw nm           nm, the bytes up to the plan's end, or none where that end is past the data
pub data Syntax : Type 0 where
  end : Syntax
  field : Sign → Name → ℕ → (ℕ → Syntax) → Syntax
  when : Bool → Syntax → Syntax → Syntax
  need : Fault → ℕ → Syntax → Syntax
  at_most : Fault → ℕ → ℕ → Syntax → Syntax
  slots : Name → Fault → ℕ → Syntax → Syntax
  plan : Name → Syntax → Syntax
  raw : Name → Syntax

-- a description as it was before it had such tests
abbrev pub before : Syntax → Syntax
before end = end
before (field g nm w k) = field g nm w (λ v. before (k v))
before (when t k l) = when t (before k) (before l)
before (need a w k) = need a w (before k)
before (at_most a v m k) = before k
before (slots nm a m k) = slots nm a m (before k)
before (plan nm k) = plan nm (before k)
before (raw nm) = raw nm

-- A field as read, under its name: a width and the number that the bits spell; the slots' bits; the bits of raw bytes;
-- a plan's length; the bits of its "filler" (S-18), which stands behind fields and padding up to its end or the data's.
pub data Field : Type 0 where
  num : Sign → Name → ℕ → ℕ → Field
  flags bytes : Name → List ℕ → Field
  len : Name → ℕ → Field
  filler : List ℕ → Field

-- What the second "edition" (S-18) of the ledger, and of the body that comes back from it, alone has. In the first a
-- plan's length is what its fields take and there is no filler; the second keeps both as they came.
abbrev pub added : Edition → List ℕ → List ℕ
added First xs = []
added Second xs = xs

-- what reading gives: something read, and the digits that are left; or a refusal's fault, need and have
pub data Parse (A : Type 0) : Type 0 where
  got : A → List ℕ → Parse A
  refused : Fault → ℕ → ℕ → Parse A

-- go on with what was read; a refusal ends the whole reading
abbrev pub and_then : {A B : Type 0} → Parse A → (A → List ℕ → Parse B) → Parse B
and_then (got a rest) k = k a rest
and_then (refused fault needed had) k = refused fault needed had

-- one more in front of those that follow
abbrev pub push : {A : Type 0} → A → Parse (List A) → Parse (List A)
push x p = and_then p (λ xs rest. got (x ∷ xs) rest)
