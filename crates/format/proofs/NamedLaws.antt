-- What is known of a table that is a list, by its id.
-- Assumes nothing.
use Prim.Native.Nat.{ℕ, zero, suc, ◌≤◌}
use mathlib.Core.Path.{◌≡◌, refl}
use mathlib.Core.Bool.{false}
use mathlib.Core.Logic.{◌⊎◌, inl, inr}
use native.Mathlib.Omega.{arith}
use Rattle.std.specs.Prelude.{Option, Some, None}
use Rattle.format.specs.Syntax.{end}
use Rattle.format.specs.Whole.{many, opaque, layout}
use Rattle.format.specs.Lists.{IsList, list_id, Named, entry_syntax, least_bits, head_syntax}
use Rattle.format.specs.declared.tables.ListTable.{ListTable}
use Rattle.format.specs.declared.tables.ListTable.TheVariants.{PositionV2, CellFragment, BeamhoppingTimePlan, PositionV3}
use Rattle.format.proofs.Good.{Fine, Least}
use Rattle.format.proofs.FineTables.{fine_position, least_position, fine_fragment, least_fragment, fine_beamhopping, least_beamhopping, fine_position3, least_position3}

-- what a table id says
pub named_list : {id : ℕ} {r : Option ListTable} {t : ListTable} → Named id r → r ≡ Some t → id ≡ list_id t
named_list h m = rw m at h.is

pub named_none : {id : ℕ} {r : Option ListTable} → Named id r → r ≡ None → IsList (layout id) → ⊥
named_none h m = rw m at h.is

-- a body that is neither a list nor the association is raw
pub layout_raw : (id : ℕ) → (IsList (layout id) → ⊥) → (id ≡ 2 → ⊥) → layout id ≡ opaque
layout_raw zero h n = absurd (h tt)
layout_raw (suc zero) h n = absurd (h tt)
layout_raw (suc (suc zero)) h n = absurd (n refl)
layout_raw (suc (suc (suc zero))) h n = absurd (h tt)
layout_raw (suc (suc (suc (suc zero)))) h n = absurd (h tt)
layout_raw (suc (suc (suc (suc (suc k))))) h n = refl

pub layout_list : (t : ListTable) → let i : ℕ = list_id t in layout i ≡ many (head_syntax i) (least_bits i) (entry_syntax i)
layout_list PositionV2 = refl
layout_list CellFragment = refl
layout_list BeamhoppingTimePlan = refl
layout_list PositionV3 = refl

-- only one of them has a head
pub headless : {t : ListTable} → (t ≡ PositionV2) ⊎ ((t ≡ CellFragment) ⊎ (t ≡ BeamhoppingTimePlan)) → head_syntax (list_id t) ≡ end
headless (inl e) = rw e
headless (inr (inl e)) = rw e
headless (inr (inr e)) = rw e

pub fine_entry : (t : ListTable) → Fine false 0 0 (entry_syntax (list_id t))
fine_entry PositionV2 = fine_position
fine_entry CellFragment = fine_fragment
fine_entry BeamhoppingTimePlan = fine_beamhopping
fine_entry PositionV3 = fine_position3

pub least_entry : (t : ListTable) → Least (least_bits (list_id t)) (entry_syntax (list_id t))
least_entry PositionV2 = least_position
least_entry CellFragment = least_fragment
least_entry BeamhoppingTimePlan = least_beamhopping
least_entry PositionV3 = least_position3

pub byte_entry : (t : ListTable) → 8 ≤ least_bits (list_id t)
byte_entry PositionV2 = omega arith
byte_entry CellFragment = omega arith
byte_entry BeamhoppingTimePlan = omega arith
byte_entry PositionV3 = omega arith
