-- The sizes that the code adds up, and the pieces that it lays, are those of the definitions.
-- Assumes nothing.
use Prim.Native.Nat.{ℕ, ◌+◌, ◌-◌, ◌*◌, ◌≤◌}
use mathlib.Core.Path.{◌≡◌, ap, ap₂, ◌∙◌}
use mathlib.Core.List.{List, [], ◌∷◌, ◌++◌}
use native.Mathlib.Omega.{arith}
use lib.ListN.{length, take, drop}
use Rattle.format.specs.Digits.{value}
use Rattle.runs.specs.declared.Flags.{Flags}
use Rattle.runs.specs.Appended.{AppendedAt}
use Rattle.runs.proofs.Appends.{also, named}
use Rattle.ledger_redactor.specs.Places.{flags_at, metadata_size, entry_size, covariance_size, count_at, covariance_at, behind_at, copy_to}

module _ (l : List ℕ) (at : ℕ) where
  -- a satellite's copy in three pieces
  pub in_pieces : {out out₁ out₂ out₃ : List ℕ} {p q r n : ℕ} (end : ℕ)
      → AppendedAt (take (at + 9 - at) (drop at l)) p out out₁ q
      → AppendedAt (0 ∷ []) q out₁ out₂ r → AppendedAt (take (end - (at + 10)) (drop (at + 10) l)) r out₂ out₃ n
      → AppendedAt (copy_to l at end) p out out₃ n
  unfolding copy_to
  in_pieces end x y z =
      let e : at + 9 - at ≡ 9 = omega arith in
      named (ap (λ (k : ℕ). take k (drop at l) ++ (0 ∷ take (end - (at + 10)) (drop (at + 10) l))) e) (also x
      (also y z))

  -- where its parts stand
  pub ten : behind_at l at ≤ length l → at + 10 ≤ length l
  unfolding behind_at covariance_at count_at
  ten h = omega (arith, h)

  module _ {f : Flags} {m : ℕ} (e : f ≡ flags_at l at) (a : m ≡ metadata_size f) where
    pub count_is : at + 10 + m ≡ count_at l at
    unfolding count_at
    count_is = ap (λ (k : ℕ). at + 10 + k) (a ∙ ap metadata_size e)

    pub count_there : behind_at l at ≤ length l → at + 10 + m + 2 ≤ length l
    unfolding behind_at covariance_at
    count_there h = omega (arith, h, count_is)

    module _ {n s : ℕ} (c : n ≡ value 256 (take 2 (drop (at + 10 + m) l))) (b : s ≡ n * entry_size f.acceleration) where
      pub start_is : at + 10 + m + 2 + s ≡ covariance_at l at
      unfolding covariance_at
      start_is =
          let k : n ≡ value 256 (take 2 (drop (count_at l at) l)) = c
          ∙ ap (λ (x : ℕ). value 256 (take 2 (drop x l))) count_is in
          ap₂ (λ (x y : ℕ). x + 2 + y) count_is (b ∙ ap₂ (λ (x : ℕ) (y : Flags). x * entry_size y.acceleration) k e)

      pub start_there : behind_at l at ≤ length l → at + 10 + m + 2 + s ≤ length l
      unfolding behind_at
      start_there h = omega (arith, h, start_is)

      module _ {p : ℕ} (d : p ≡ covariance_size f.covariance) where
        pub end_is : at + 10 + m + 2 + s + p ≡ behind_at l at
        unfolding behind_at
        end_is = ap₂ (λ (x y : ℕ). x + y) start_is (d ∙ ap (λ (y : Flags). covariance_size y.covariance) e)
