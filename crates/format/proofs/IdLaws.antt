-- Of some ids, each where it first stands: each different one once and nothing else, in the order of first places; and
-- no other list is that.
-- Assumes nothing.
use Prim.Native.Nat.{ℕ, suc, ◌≤◌}
use mathlib.Core.Path.{◌≡◌, refl, sym, ap, ◌∙◌}
use mathlib.Core.Logic.{◌↔◌, ◌⊎◌, inl, inr, ⊎_elim}
use mathlib.Core.Bool.{Bool, true, false, cond}
use mathlib.Core.List.Memᴰ
use mathlib.Core.List.{List, [], ◌∷◌, Memᴰ}
use native.Mathlib.Omega.{arith}
use lib.Dec.{eqb}
use lib.ListN.{length}
use borrow.Author.Tests.{eqb-true, eqb-false, eq-eqb, ne_eqb}
use Rattle.std.proofs.lemmas.Bool.{cond_both}
use Rattle.format.specs.Added.{without, first_of_each, NoneTwice, Distinct, place_of, InOrder}

-- ---- a list without an id

module _ (x : ℕ) where
  -- what is there was there, and is another
  without_from : (z : ℕ) (l : List ℕ) → Memᴰ z (without x l) → Memᴰ z l × (z ≡ x → ⊥)
  unfolding without
  without_from z [] m = absurd (Memᴰ.not-nil m)
  without_from z (y ∷ l) m =
      let behind : Memᴰ z (without x l) → Memᴰ z (y ∷ l) × (z ≡ x → ⊥) = λ q. let o = without_from z l q in (Memᴰ.tail o.0, o.1) in
      cond_both (eqb x y) (without x l) (y ∷ without x l) (λ (k : List ℕ). Memᴰ z k → Memᴰ z (y ∷ l) × (z ≡ x → ⊥)) (λ _. behind)
      (λ e w. ⊎_elim (λ q. (Memᴰ.head q, λ v. eqb-false x y e (sym v ∙ q))) behind (Memᴰ.cases_cons w)) m

  -- what was there and is another is there
  without_keeps : (z : ℕ) (l : List ℕ) → (z ≡ x → ⊥) → Memᴰ z l → Memᴰ z (without x l)
  unfolding without
  without_keeps z [] n m = absurd (Memᴰ.not-nil m)
  without_keeps z (y ∷ l) n m = go (eqb x y) refl (without_keeps z l n) (Memᴰ.cases_cons m)
    where
      go : (t : Bool) → eqb x y ≡ t → (Memᴰ z l → Memᴰ z (without x l)) → (z ≡ y) ⊎ Memᴰ z l
          → Memᴰ z (cond t (without x l) (y ∷ without x l))
      go true e ih (inl q) = absurd (n (q ∙ sym (eqb-true x y e)))
      go true e ih (inr q) = ih q
      go false e ih (inl q) = Memᴰ.head q
      go false e ih (inr q) = Memᴰ.tail (ih q)

  without_once : (l : List ℕ) → NoneTwice l → NoneTwice (without x l)
  unfolding without
  without_once [] n = tt
  without_once (y ∷ l) n =
      let k : NoneTwice (without x l) = without_once l n.1 in
      cond_both (eqb x y) (without x l) (y ∷ without x l) NoneTwice (λ _. k) (λ _. (λ m. n.0 (without_from y l m).0, k))

  without_shorter : (l : List ℕ) → length (without x l) ≤ length l
  unfolding without
  without_shorter [] = omega arith
  without_shorter (y ∷ l) =
      let h : length (without x l) ≤ length l = without_shorter l in
      cond_both (eqb x y) (without x l) (y ∷ without x l) (λ (k : List ℕ). length k ≤ length (y ∷ l)) (λ _. omega arith) (λ _. omega arith)

-- ---- document 01's properties

first_once : (ids : List ℕ) → NoneTwice (first_of_each ids)
unfolding first_of_each
first_once [] = tt
first_once (x ∷ ids) = (λ m. (without_from x x (first_of_each ids) m).1 refl, without_once x (first_of_each ids) (first_once ids))

module _ (z : ℕ) where
  first_from : (ids : List ℕ) → Memᴰ z (first_of_each ids) → Memᴰ z ids
  unfolding first_of_each
  first_from [] m = m
  first_from (x ∷ ids) m =
      ⊎_elim (λ q. Memᴰ.head q) (λ q. Memᴰ.tail (first_from ids (without_from x z (first_of_each ids) q).0)) (Memᴰ.cases_cons m)

  first_keeps : (ids : List ℕ) → Memᴰ z ids → Memᴰ z (first_of_each ids)
  unfolding first_of_each
  first_keeps [] m = m
  first_keeps (x ∷ ids) m = go (eqb z x) refl (Memᴰ.cases_cons m) (first_keeps ids)
    where
      go : (t : Bool) → eqb z x ≡ t → (z ≡ x) ⊎ Memᴰ z ids → (Memᴰ z ids → Memᴰ z (first_of_each ids))
          → Memᴰ z (x ∷ without x (first_of_each ids))
      go true e q ih = Memᴰ.head (eqb-true z x e)
      go false e (inl q) ih = Memᴰ.head q
      go false e (inr q) ih = Memᴰ.tail (without_keeps x z (first_of_each ids) (eqb-false z x e) (ih q))

-- each different one once and nothing else
pub each_once : (ids : List ℕ) → Distinct ids (first_of_each ids)
each_once ids = record { none_twice = first_once ids; same = λ z. (first_from z ids, first_keeps z ids) }

-- they are no more than the entries
pub first_shorter : (ids : List ℕ) → length (first_of_each ids) ≤ length ids
unfolding first_of_each
first_shorter [] = omega arith
first_shorter (x ∷ ids) = omega (arith, without_shorter x (first_of_each ids), first_shorter ids)

-- ---- S-10's order

module _ (x : ℕ) (ids : List ℕ) where
  place_first : place_of x (x ∷ ids) ≡ 0
  unfolding place_of
  place_first = rw (eq-eqb x x refl)

  place_behind : (y : ℕ) → (y ≡ x → ⊥) → place_of y (x ∷ ids) ≡ suc (place_of y ids)
  unfolding place_of
  place_behind y n = rw (ne_eqb y x n)

  order_behind : (l : List ℕ) → InOrder ids l → InOrder (x ∷ ids) (without x l)
  unfolding without
  order_behind [] o = tt
  order_behind (y ∷ l) o =
      let k : InOrder (x ∷ ids) (without x l) = order_behind l o.1 in
      cond_both (eqb x y) (without x l) (y ∷ without x l) (InOrder (x ∷ ids)) (λ _. k)
      (λ e. (
        λ z m. let q = without_from x z l m in
            rw (place_behind y (λ w. eqb-false x y e (sym w)), place_behind z q.1) (omega (arith, o.0 z q.0)),
        k,
      ))

-- they stand in the order of their first places
pub first_order : (ids : List ℕ) → InOrder ids (first_of_each ids)
unfolding first_of_each
first_order [] = tt
first_order (x ∷ ids) = (
  λ y m. rw (place_first x ids, place_behind x ids y (without_from x y (first_of_each ids) m).1) (omega arith),
  order_behind x ids (first_of_each ids) (first_order ids),
)

-- the second 7 adds nothing, and 9 does not come first for it
pub sample_order : first_of_each (7 ∷ 9 ∷ 7 ∷ 8 ∷ []) ≡ 7 ∷ 9 ∷ 8 ∷ []
unfolding first_of_each without
sample_order = refl

-- ---- no other list has both

same_order : (ids l k : List ℕ) → InOrder ids l → InOrder ids k → ((z : ℕ) → Memᴰ z l ↔ Memᴰ z k) → l ≡ k
same_order ids [] [] o p s = refl
same_order ids [] (y ∷ k) o p s = absurd (Memᴰ.not-nil ((s y).1 (Memᴰ.head refl)))
same_order ids (x ∷ l) [] o p s = absurd (Memᴰ.not-nil ((s x).0 (Memᴰ.head refl)))
same_order ids (x ∷ l) (y ∷ k) o p s =
    heads (λ t. same_order ids l k o.1 p.1 t) (Memᴰ.cases_cons ((s x).0 (Memᴰ.head refl))) (Memᴰ.cases_cons ((s y).1 (Memᴰ.head refl)))
  where
    -- what stands in front of the rest is none of the rest
    other : (u z : ℕ) (m : List ℕ) → InOrder ids (u ∷ m) → z ≡ u → Memᴰ z m → ⊥
    other u z m q e w = let h = q.0 z w in omega (arith, ap (λ (v : ℕ). place_of v ids) e)

    tails : x ≡ y → (z : ℕ) → Memᴰ z l ↔ Memᴰ z k
    tails e z = (
      λ m. ⊎_elim (λ q. absurd (other x z l o (q ∙ sym e) m)) (λ q. q) (Memᴰ.cases_cons ((s z).0 (Memᴰ.tail m))),
      λ m. ⊎_elim (λ q. absurd (other y z k p (q ∙ e) m)) (λ q. q) (Memᴰ.cases_cons ((s z).1 (Memᴰ.tail m))),
    )

    heads : (((z : ℕ) → Memᴰ z l ↔ Memᴰ z k) → l ≡ k) → (x ≡ y) ⊎ Memᴰ x k → (y ≡ x) ⊎ Memᴰ y l → x ∷ l ≡ y ∷ k
    heads ih (inl e) q = rw (e, ih (tails e))
    heads ih (inr m) (inl e) = rw (e, ih (tails (sym e)))
    heads ih (inr m) (inr w) = absurd (let a = p.0 x m in let b = o.0 y w in omega arith)

pub only_one : (ids l : List ℕ) → Distinct ids l → InOrder ids l → l ≡ first_of_each ids
only_one ids l d o =
    same_order ids l (first_of_each ids) o (first_order ids) (λ z. (λ m. first_keeps z ids ((d.same z).0 m), λ m. (d.same z).1 (first_from z ids m)))
