-- The entry of a table, of what its reader found.
-- Assumes nothing.
use Prim.Native.Nat.{ℕ}
use mathlib.Core.Path.{◌≡◌, refl, sym, ap, ◌∙◌}
use mathlib.Core.List.{List}
use Rattle.std.specs.Prelude.{Result, Ok, Err}
use Rattle.format.specs.Syntax.{Syntax, Field}
use Rattle.format.specs.Tables as tables
use Rattle.format.specs.At.{read, found_at}
use Rattle.format.specs.declared.Refusal.{Refusal}
use Rattle.format.specs.declared.Found.{Found}
use Rattle.format.proofs.ReadLaws.{through}
use Rattle.position.specs.Satellite.{satellite_of, satellite_at}
use Rattle.position.specs.declared.PositionV2Satellite.{PositionV2Satellite}
use Rattle.fragment.specs.Fragment.{fragment_of, fragment_at}
use Rattle.fragment.specs.declared.CellFragment as fragments
use Rattle.association.specs.Association.{association_of, association_at}
use Rattle.association.specs.declared.TimeAssociationBody.{TimeAssociationBody}
use Rattle.plan.specs.Plan.{plan_of, plan_at}
use Rattle.plan.specs.declared.BeamhoppingPlan.{BeamhoppingPlan}
use Rattle.position_v3.specs.PositionV3.{satellite_v3_of, satellite_v3_at}
use Rattle.position_v3.specs.declared.PositionV3Satellite.{PositionV3Satellite}
use Rattle.sat.specs.Sat.{typed_at}
use Rattle.sat.specs.declared.SatEntry.{SatEntry}
use Rattle.sat.specs.declared.SatEntry.TheVariants.{PositionV2, CellFragment, TimeAssociation, BeamhoppingTimePlan, PositionV3}

-- an entry of what was found, or the refusal
abbrev pub entry_made : {A : Type 0} → (A → SatEntry) → Result (Found A) Refusal → Result SatEntry Refusal
entry_made k (Ok x) = Ok (k x.value)
entry_made k (Err f) = Err f

module _ (id : ℕ) (b : List ℕ) (p : ℕ) where
  -- r: a reader's answer, by the description s; m: what it is
  typed : {A : Type 0} {r m : Result (Found A) Refusal} (k : A → SatEntry) (s : Syntax) (of : List Field → A)
      → typed_at id b p ≡ read b 0 s p (λ ts q. Ok (k (of ts))) Err
      → r ≡ read b 0 s p (λ ts q. found_at (of ts) q) Err → r ≡ m
      → entry_made k m ≡ typed_at id b p
  typed k s of e h w =
      ap (entry_made k) (sym w ∙ h)
      ∙ through b 0 s p (λ ts q. Ok (k (of ts))) Err (λ ts q. found_at (of ts) q) Err (entry_made k) (λ ts q. refl) (λ f. refl)
      ∙ sym e

  pub satellite_typed : {r m : Result (Found PositionV2Satellite) Refusal} → id ≡ 0 → r ≡ satellite_at b p → r ≡ m
      → entry_made PositionV2 m ≡ typed_at id b p
  unfolding typed_at satellite_at
  satellite_typed z = typed PositionV2 tables.position satellite_of (rw z refl)

  pub fragment_typed : {r m : Result (Found fragments.CellFragment) Refusal} → id ≡ 1 → r ≡ fragment_at b p → r ≡ m
      → entry_made CellFragment m ≡ typed_at id b p
  unfolding typed_at fragment_at
  fragment_typed z = typed CellFragment tables.fragment (fragment_of p) (rw z refl)

  pub association_typed : {r m : Result (Found TimeAssociationBody) Refusal} → id ≡ 2 → p ≡ 0 → r ≡ association_at b → r ≡ m
      → entry_made TimeAssociation m ≡ typed_at id b p
  unfolding typed_at association_at
  association_typed z o h = typed TimeAssociation tables.association association_of (rw z refl) (rw o h)

  pub plan_typed : {r m : Result (Found BeamhoppingPlan) Refusal} → id ≡ 3 → r ≡ plan_at b p → r ≡ m
      → entry_made BeamhoppingTimePlan m ≡ typed_at id b p
  unfolding typed_at plan_at
  plan_typed z = typed BeamhoppingTimePlan tables.beamhopping (plan_of p) (rw z refl)

  pub satellite_v3_typed : {r m : Result (Found PositionV3Satellite) Refusal} → id ≡ 4 → r ≡ satellite_v3_at b p → r ≡ m
      → entry_made PositionV3 m ≡ typed_at id b p
  unfolding typed_at satellite_v3_at
  satellite_v3_typed z = typed PositionV3 tables.position3 (satellite_v3_of p) (rw z refl)
