-- The test for an id, and one more id behind those that are there.
-- Assumes nothing.
use Prim.Native.Nat.{ℕ, ◌+◌, ◌≤◌}
use mathlib.Core.Path.{◌≡◌, refl, sym, ap, ◌∙◌}
use mathlib.Core.Bool.{Bool, true, false, cond, ◌||◌}
use mathlib.Core.List.{List, [], ◌∷◌, ◌++◌, append-nil}
use native.Mathlib.Omega.{arith}
use lib.Dec.{eqb}
use lib.ListN.{length, length-append}
use borrow.Author.Tests.{eqb-true, eqb-false, eq-eqb, ne_eqb}
use Rattle.std.specs.Prelude.{nat_eq}
use Rattle.std.specs.List.{list_any}
use Rattle.format.specs.Added.{without, first_of_each}
use Rattle.entry_ids.specs.Steps.{is_in, join}

-- ---- the test

module _ (x : ℕ) where
  is_in_append : (l k : List ℕ) → is_in x (l ++ k) ≡ (is_in x l || is_in x k)
  unfolding is_in
  is_in_append [] k = refl
  is_in_append (y ∷ l) k = go (eqb x y) (is_in_append l k)
    where
      go : (t : Bool) → is_in x (l ++ k) ≡ (is_in x l || is_in x k)
          → (t || is_in x (l ++ k)) ≡ ((t || is_in x l) || is_in x k)
      go true e = refl
      go false e = e

-- as the library's search finds it
equal_either : (x y : ℕ) → nat_eq y x ≡ eqb x y
equal_either x y = go (eqb x y) refl
  where
    go : (t : Bool) → eqb x y ≡ t → nat_eq y x ≡ t
    go true e = eq-eqb y x (sym (eqb-true x y e))
    go false e = ne_eqb y x (λ z. eqb-false x y e (sym z))

contains_is : (x : ℕ) (l : List ℕ) → list_any (λ y. nat_eq y x) l ≡ is_in x l
unfolding is_in
contains_is x [] = refl
contains_is x (y ∷ l) = rw (equal_either x y, contains_is x l)

-- what the library's search says of a list of ids, and of that the ids with one more
module _ {l m : List ℕ} {there : Bool} (x : ℕ) (e : there ≡ list_any (λ y. nat_eq y x) m) (same : m ≡ l) where
  told : there ≡ is_in x l
  told = e ∙ contains_is x m ∙ ap (is_in x) same

  pub joined_new : {k : List ℕ} → there ≡ false → k ≡ l ++ x ∷ [] → k ≡ join l x
  unfolding join
  joined_new h w = rw (sym told ∙ h) w

  pub joined_old : there ≡ true → l ≡ join l x
  unfolding join
  joined_old h = rw (sym told ∙ h) refl

-- ---- one more id behind others: it is put down unless it is there

without_append : (x : ℕ) (l k : List ℕ) → without x (l ++ k) ≡ without x l ++ without x k
unfolding without
without_append x [] k = refl
without_append x (y ∷ l) k = go (eqb x y) (without_append x l k)
  where
    go : (t : Bool) → without x (l ++ k) ≡ without x l ++ without x k
        → cond t (without x (l ++ k)) (y ∷ without x (l ++ k)) ≡ cond t (without x l) (y ∷ without x l) ++ without x k
    go true e = e
    go false e = ap (λ (m : List ℕ). y ∷ m) e

-- another is there as before
is_in_without : (x y : ℕ) → (x ≡ y → ⊥) → (l : List ℕ) → is_in x (without y l) ≡ is_in x l
unfolding is_in without
is_in_without x y n [] = refl
is_in_without x y n (z ∷ l) = go (eqb y z) refl (is_in_without x y n l)
  where
    go : (t : Bool) → eqb y z ≡ t → is_in x (without y l) ≡ is_in x l
        → is_in x (cond t (without y l) (z ∷ without y l)) ≡ (eqb x z || is_in x l)
    go true e ih = rw (ne_eqb x z (λ q. n (q ∙ sym (eqb-true y z e)))) ih
    go false e ih = rw ih

module _ (y x : ℕ) (l : List ℕ) where
  join_same : y ≡ x → y ∷ without y (join l x) ≡ join (y ∷ without y l) x
  unfolding join is_in without
  join_same e = rw (eq-eqb x y (sym e)) (go (is_in x l))
    where
      go : (t : Bool) → y ∷ without y (cond t l (l ++ x ∷ [])) ≡ y ∷ without y l
      go true = refl
      go false = ap (λ (m : List ℕ). y ∷ m) (without_append y l (x ∷ []) ∙ rw (eq-eqb y x e) (append-nil (without y l)))

  join_other : (y ≡ x → ⊥) → y ∷ without y (join l x) ≡ join (y ∷ without y l) x
  unfolding join is_in without
  join_other n = rw (ne_eqb x y (λ e. n (sym e)), is_in_without x y (λ e. n (sym e)) l) (go (is_in x l))
    where
      go : (t : Bool) → y ∷ without y (cond t l (l ++ x ∷ [])) ≡ cond t (y ∷ without y l) ((y ∷ without y l) ++ x ∷ [])
      go true = refl
      go false = ap (λ (m : List ℕ). y ∷ m) (without_append y l (x ∷ []) ∙ rw (ne_eqb y x n))

pub first_last : (ids : List ℕ) (x : ℕ) → first_of_each (ids ++ x ∷ []) ≡ join (first_of_each ids) x
unfolding first_of_each join is_in without
first_last [] x = refl
first_last (y ∷ ids) x = ap (λ (m : List ℕ). y ∷ without y m) (first_last ids x) ∙ go (eqb y x) refl
  where
    go : (t : Bool) → eqb y x ≡ t
        → y ∷ without y (join (first_of_each ids) x) ≡ join (y ∷ without y (first_of_each ids)) x
    go true e = join_same y x (first_of_each ids) (eqb-true y x e)
    go false e = join_other y x (first_of_each ids) (eqb-false y x e)

-- at most one more
pub join_most : (l : List ℕ) (x : ℕ) → length (join l x) ≤ length l + 1
unfolding join
join_most l x = go (is_in x l)
  where
    go : (t : Bool) → length (cond t l (l ++ x ∷ [])) ≤ length l + 1
    go true = omega arith
    go false = omega (arith, length-append l (x ∷ []))
