-- Every refusal has a number that is not 0, so that 0 says acceptance.
-- Assumes nothing.
use mathlib.Core.List.{List}
use Prim.Native.Nat.{ℕ, ◌<◌}
use native.Mathlib.Omega.{arith}
use Rattle.format.specs.Refusals.{fault_number}
use Rattle.format.specs.Syntax.{Parse, got, refused}
use Rattle.format.specs.Whole.{body_read, ledger_read}
use Rattle.format.specs.declared.Fault.{Fault}
use Rattle.format.specs.declared.Fault.TheVariants as fault

pub data Numbered {A : Type 0} : Parse A → Type 0 where
  accepts : {a : A} {rest : List ℕ} → Numbered (got a rest)
  refuses : {fault : Fault} {needed had : ℕ} → 0 < fault_number fault → Numbered (refused fault needed had)

pub fault_number_positive : (f : Fault) → 0 < fault_number f
fault_number_positive fault.FieldCut = omega arith
fault_number_positive fault.BodyEmpty = omega arith
fault_number_positive fault.OrbitalCut = omega arith
fault_number_positive fault.ElementsCut = omega arith
fault_number_positive fault.CentreCut = omega arith
fault_number_positive fault.IdsCut = omega arith
fault_number_positive fault.NewSystemsCut = omega arith
fault_number_positive fault.ObsolescentSystemsCut = omega arith
fault_number_positive fault.AssociationCut = omega arith
fault_number_positive fault.DwellCut = omega arith
fault_number_positive fault.BitmapHeaderCut = omega arith
fault_number_positive fault.SlotsCut = omega arith
fault_number_positive fault.GridCut = omega arith
fault_number_positive fault.PlanOverrun = omega arith
fault_number_positive fault.HeaderCut = omega arith
fault_number_positive fault.MetadataCut = omega arith
fault_number_positive fault.UsableStartCut = omega arith
fault_number_positive fault.UsableStopCut = omega arith
fault_number_positive fault.EphemerisCut = omega arith
fault_number_positive fault.CovarianceCut = omega arith
fault_number_positive fault.BodyTooLong = omega arith
fault_number_positive fault.BufferTooShort = omega arith
fault_number_positive fault.LedgerMisfit = omega arith
fault_number_positive fault.VersionUnknown = omega arith
fault_number_positive fault.ValueMisfit = omega arith
fault_number_positive fault.RestoredTooLong = omega arith
fault_number_positive fault.PlanLengthMisfit = omega arith
fault_number_positive fault.PlanInexact = omega arith
fault_number_positive fault.ExtensionTooLarge = omega arith

pub numbered : {A : Type 0} (p : Parse A) → Numbered p
numbered (got a rest) = accepts
numbered (refused f needed had) = refuses (fault_number_positive f)

-- of a body and of a ledger
pub numbered_body_read : (id : ℕ) (b : List ℕ) → Numbered (body_read id b)
numbered_body_read id b = numbered (body_read id b)

pub numbered_ledger_read : (l : List ℕ) → Numbered (ledger_read l)
numbered_ledger_read l = numbered (ledger_read l)
