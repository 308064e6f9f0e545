-- The mode is chosen by its number.
-- Assumes nothing.
use Prim.Native.Nat.{ℕ}
use mathlib.Core.Path.{◌≡◌}
use mathlib.Core.List.{List}
use borrow.Author.Tests.{ne_eqb}
use Rattle.std.specs.Prelude.{Result}
use Rattle.format.specs.Body.{read_body}
use Rattle.format.specs.At.{read}
use Rattle.format.specs.declared.Refusal.{Refusal}
use Rattle.format.specs.declared.Found.{Found}
use Rattle.plan_modes.specs.Modes.{mode_at, mode_by, dwell_at, bitmap_at, grid_at, raw_at}
use Rattle.plan_modes.specs.declared.BeamhoppingMode.{BeamhoppingMode}

module _ {r : Result (Found BeamhoppingMode) Refusal} (b : List ℕ) (e m p : ℕ) where
  pub mode_0 : m ≡ 0 → r ≡ dwell_at b e p → r ≡ mode_at b e m p
  unfolding mode_at mode_by dwell_at read read_body
  mode_0 h q = rw h q

  pub mode_1 : m ≡ 1 → r ≡ bitmap_at b e p → r ≡ mode_at b e m p
  unfolding mode_at mode_by bitmap_at read read_body
  mode_1 h q = rw h q

  pub mode_2 : m ≡ 2 → r ≡ grid_at b e p → r ≡ mode_at b e m p
  unfolding mode_at mode_by grid_at read read_body
  mode_2 h q = rw h q

  pub mode_3 : (m ≡ 0 → ⊥) → (m ≡ 1 → ⊥) → (m ≡ 2 → ⊥) → r ≡ raw_at b e p → r ≡ mode_at b e m p
  unfolding mode_at mode_by raw_at read read_body
  mode_3 h0 h1 h2 q = rw (ne_eqb m 0 h0, ne_eqb m 1 h1, ne_eqb m 2 h2) q
