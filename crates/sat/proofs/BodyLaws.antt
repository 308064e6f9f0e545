-- The whole body beside the other calls: its lists have as many entries as `entry_count` tells and lie within the
-- body's bytes, and it is refused exactly when the number of entries is, and alike. Stated of what the calls' contracts
-- are equal to.
-- Assumes nothing.
use Prim.Native.Nat.{ℕ, zero, suc, ◌+◌, ◌*◌, ◌-◌, ◌≤◌}
use mathlib.Core.Path.{◌≡◌, refl, ap}
use mathlib.Core.Bool.{Bool, true, false, cond}
use mathlib.Core.List.{List, [], ◌∷◌}
use native.Mathlib.Omega.{arith}
use lib.Dec.{leb}
use lib.ListN.{length}
use Rattle.std.specs.Prelude.{Ok, Err}
use Rattle.format.specs.Digits.{bits_of}
use Rattle.format.specs.Refusals.{refuse}
use Rattle.format.specs.Syntax.{Field, Parse, got, refused, and_then}
use Rattle.format.specs.Tables as tables
use Rattle.format.specs.Body.{read_body}
use Rattle.format.specs.Whole.{starts, starts_as, body_starts}
use Rattle.format.specs.At.{made, read, seek}
use Rattle.format.specs.declared.Refusal.{Refusal}
use Rattle.format.specs.declared.Fault.TheVariants.{BodyTooLong}
use Rattle.parts.specs.declared.Part.{Part}
use Rattle.association.specs.Association.{association_of}
use Rattle.sat.specs.Sat.{count_of, raw_part}
use Rattle.sat.specs.SatBody.{list_part, association_body, position3_of, position3_body, typed_body, sat_body_of}
use Rattle.sat.specs.declared.SatBody.{SatBody}
use Rattle.sat.specs.declared.SatBody.TheVariants.{PositionV2, CellFragment, TimeAssociation, BeamhoppingTimePlan, PositionV3, Raw}

-- a body's list of entries is the part p
abbrev pub Lists : SatBody → Part → Type 0
Lists (PositionV2 x) p = x.satellites ≡ p
Lists (CellFragment x) p = x.fragments ≡ p
Lists (TimeAssociation x) p = ⊥
Lists (BeamhoppingTimePlan x) p = x.plans ≡ p
Lists (PositionV3 x) p = x.satellites ≡ p
Lists (Raw x) p = ⊥

-- a list's part has n entries, within the body
pub record Within (b : List ℕ) (n : ℕ) (p : Part) : Type 0 where
  pub counts : n ≡ p.count
  pub lies : p.start + p.length ≤ length b

module _ (b : List ℕ) (x : SatBody) (p : Part) where
  list_within : (n q e : ℕ) → q ≤ 8 * length b → e ≤ 8 * length b → list_part q e n ≡ p → Within b n p
  list_within n q e h k z = rw (← z) (record { counts = refl; lies = omega arith })

  typed_within : (id n e : ℕ) → e ≤ 8 * length b → typed_body id b n e ≡ Ok x → Lists x p → Within b n p
  unfolding typed_body association_body position3_body read
  typed_within zero n e h z l = let y : PositionV2 (record { satellites = list_part 0 e n }) ≡ x = cc in list_within n 0 e (omega arith) h (rw (← y) at l)
  typed_within (suc zero) n e h z l = let y : CellFragment (record { fragments = list_part 0 e n }) ≡ x = cc in list_within n 0 e (omega arith) h (rw (← y) at l)
  typed_within (suc (suc zero)) n e h z l = go (read_body (8 * length b) 0 tables.association (bits_of b)) z
    where
      go : (r : Parse (List Field)) → made (8 * length b) (λ ts q. Ok (TimeAssociation (association_of ts))) Err r ≡ Ok x → Within b n p
      go (got ts rest) z = let y : TimeAssociation (association_of ts) ≡ x = cc in absurd (rw (← y) at l)
      go (refused u v w) z = absurd cc
  typed_within (suc (suc (suc zero))) n e h z l =
      let y : BeamhoppingTimePlan (record { plans = list_part 0 e n }) ≡ x = cc in
      list_within n 0 e (omega arith) h (rw (← y) at l)
  typed_within (suc (suc (suc (suc zero)))) n e h z l = go (read_body (8 * length b) 0 tables.header (bits_of b)) z
    where
      go : (r : Parse (List Field)) → made (8 * length b) (λ ts q. Ok (PositionV3 (position3_of ts (list_part q e n)))) Err r ≡ Ok x → Within b n p
      go (got ts rest) z =
          let q : ℕ = 8 * length b - length rest in
          let y : PositionV3 (position3_of ts (list_part q e n)) ≡ x = cc in
          list_within n q e (omega arith) h (rw (← y) at l)
      go (refused u v w) z = absurd cc
  typed_within (suc (suc (suc (suc (suc i))))) n e h z l = let y : Raw (raw_part b) ≡ x = cc in absurd (rw (← y) at l)

-- the part's count is what `entry_count` gives, and the part lies within the body
pub body_counts : (id : ℕ) (b : List ℕ) (x : SatBody) (p : Part) → sat_body_of id b ≡ Ok x → Lists x p
    → (count_of id b ≡ Ok p.count) × (p.start + p.length ≤ length b)
unfolding sat_body_of count_of seek
body_counts id b x p z l = go (body_starts id b) z
  where
    go : (y : Parse (List ℕ)) → seek b 0 (λ n p e. typed_body id b n e) Err y ≡ Ok x
        → (seek b 0 (λ n p e. Ok n) Err y ≡ Ok p.count) × (p.start + p.length ≤ length b)
    go (got ls rest) z =
        let w = typed_within b x p id (length ls) (8 * length b - length rest) (omega arith) z l in
        (ap Ok w.counts, w.lies)
    go (refused u v w) z = absurd cc

-- ---- refusals

module _ (b : List ℕ) {f : Refusal} {ls rest : List ℕ} where
  -- what starts a body whose entries are found is read, and so not refused
  started : (t : Bool) (r : Parse (List Field)) (k : List Field → List ℕ → Parse (List ℕ)) (x : List Field → ℕ → SatBody)
      → cond t (and_then r k) (refused BodyTooLong (length b) 4096) ≡ got ls rest → made (8 * length b) (λ ts q. Ok (x ts q)) Err r ≡ Err f → ⊥
  started true (got ts over) k x y z = absurd cc
  started true (refused u v w) k x y z = absurd cc
  started false r k x y z = absurd cc

  typed_not : (id n e : ℕ) → body_starts id b ≡ got ls rest → typed_body id b n e ≡ Err f → ⊥
  unfolding body_starts starts_as typed_body association_body position3_body read
  typed_not zero n e y z = absurd cc
  typed_not (suc zero) n e y z = absurd cc
  typed_not (suc (suc zero)) n e y z =
      started (leb (length b) 4096) (read_body (8 * length b) 0 tables.association (bits_of b)) (λ ts over. got (0 ∷ []) [])
      (λ ts q. TimeAssociation (association_of ts)) y z
  typed_not (suc (suc (suc zero))) n e y z = absurd cc
  typed_not (suc (suc (suc (suc zero)))) n e y z =
      started (leb (length b) 4096) (read_body (8 * length b) 0 tables.header (bits_of b))
      (λ hs over. starts (8 * length b) 32 tables.position3 (length over) over) (λ ts q. PositionV3 (position3_of ts (list_part q e n))) y z
  typed_not (suc (suc (suc (suc (suc i))))) n e y z = absurd cc

-- refused exactly when the number of entries is, and alike
pub body_refused : (id : ℕ) (b : List ℕ) {f : Refusal} → sat_body_of id b ≡ Err f → count_of id b ≡ Err f
unfolding sat_body_of count_of seek
body_refused id b {f} z = go (body_starts id b) refl z
  where
    go : (y : Parse (List ℕ)) → body_starts id b ≡ y → seek b 0 (λ n p e. typed_body id b n e) Err y ≡ Err f
        → seek b 0 (λ n p e. Ok n) Err y ≡ Err f
    go (got ls rest) y z = absurd (typed_not b id (length ls) (8 * length b - length rest) y z)
    go (refused u v w) y z = let o : refuse u v w ≡ f = cc in ap Err o

pub count_refused : (id : ℕ) (b : List ℕ) {f : Refusal} → count_of id b ≡ Err f → sat_body_of id b ≡ Err f
unfolding sat_body_of count_of seek
count_refused id b {f} z = go (body_starts id b) z
  where
    go : (y : Parse (List ℕ)) → seek b 0 (λ n p e. Ok n) Err y ≡ Err f → seek b 0 (λ n p e. typed_body id b n e) Err y ≡ Err f
    go (got ls rest) z = absurd cc
    go (refused u v w) z = let o : refuse u v w ≡ f = cc in ap Err o
