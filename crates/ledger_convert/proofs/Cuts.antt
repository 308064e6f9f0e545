-- How an archive is cut: the ledgers in front, and those behind them.
-- Assumes nothing.
use Prim.Native.Nat.{ℕ, zero, suc, ◌+◌, ◌^◌, ◌<◌, ◌≤◌, min}
use native.Mathlib.Omega.{arith}
use mathlib.Core.Path.{◌≡◌, refl, sym, ap, ◌∙◌}
use mathlib.Core.List.{List, [], ◌∷◌, ◌++◌, append_assoc}
use lib.ListN.{length, take, drop, length-append, length-take, length-drop, take-append-drop}
use lib.Seq.{take_at, drop_at, take-append-le}
use Rattle.std.proofs.Common.{take_all}
use Rattle.std.proofs.lemmas.List.{drop_all}
use Rattle.std.specs.List.{concat}
use Rattle.std.proofs.lemmas.List.Concat.{concat_is, flat_map-cons}
use Rattle.format.specs.Digits.{value, Below}
use Rattle.format.proofs.DigitLaws.{value_lt, below_take}
use Rattle.ledger_convert.specs.Archive.{size_in_front, cut, ledgers_in}

-- ---- the size of the ledger in front

pub two_at_least : (xs : List ℕ) → 2 ≤ size_in_front xs
unfolding size_in_front
two_at_least xs = omega arith

pub size_most : (xs : List ℕ) → Below 256 xs → size_in_front xs ≤ 65537
unfolding size_in_front
size_most xs h =
    let low = value_lt 256 (take 2 xs) (below_take 256 2 xs h) in
    go (length (take 2 xs)) (omega (arith, length-take 2 xs)) low
  where
    go : (n : ℕ) → n ≤ 2 → value 256 (take 2 xs) < 256 ^ n → 2 + value 256 (take 2 xs) ≤ 65537
    go zero h k = omega arith
    go (suc zero) h k = omega arith
    go (suc (suc zero)) h k = omega arith
    go (suc (suc (suc n))) h k = absurd (omega arith)

-- the first two bytes, or as many as there are
pub front_known : (xs : List ℕ) (k : ℕ) → k ≡ min (length xs) 2 → take k xs ≡ take 2 xs
front_known [] k h = let e : k ≡ 0 = omega arith in rw e refl
front_known (x ∷ []) k h = let e : k ≡ 1 = omega arith in rw e refl
front_known (x ∷ y ∷ xs) k h = let e : k ≡ 2 = omega arith in rw e refl

-- what stands behind does not count
pub size_append : (xs ys : List ℕ) → 2 ≤ length xs → size_in_front (xs ++ ys) ≡ size_in_front xs
unfolding size_in_front
size_append xs ys h = ap (λ (t : List ℕ). 2 + value 256 t) (take-append-le 2 xs ys h)

-- ---- the ledgers

cut_nil : (n : ℕ) → cut n [] ≡ []
unfolding cut
cut_nil zero = refl
cut_nil (suc n) = refl

-- as many as there are bytes are enough
cut_enough : (n m : ℕ) (xs : List ℕ) → length xs ≤ n → length xs ≤ m → cut n xs ≡ cut m xs
unfolding cut
cut_enough n m [] h k = cut_nil n ∙ sym (cut_nil m)
cut_enough zero m (x ∷ xs) h k = absurd (omega arith)
cut_enough (suc n) zero (x ∷ xs) h k = absurd (omega arith)
cut_enough (suc n) (suc m) (x ∷ xs) h k =
    let size : ℕ = size_in_front (x ∷ xs) in
    let less = length-drop size (x ∷ xs) in
    let two = two_at_least (x ∷ xs) in
    ap (λ (ls : List (List ℕ)). take size (x ∷ xs) ∷ ls)
    (cut_enough n m (drop size (x ∷ xs)) (omega (arith, less, two)) (omega (arith, less, two)))

-- the last ledger, whole or too short
pub last_ledger : (l : List ℕ) → 0 < length l → length l ≤ size_in_front l → ledgers_in l ≡ l ∷ []
unfolding ledgers_in cut
last_ledger [] h k = absurd (omega arith)
last_ledger (x ∷ l) h k =
    let size : ℕ = size_in_front (x ∷ l) in
    rw (take_all size (x ∷ l) k, drop_all size (x ∷ l) k)
    (ap (λ (ls : List (List ℕ)). (x ∷ l) ∷ ls) (cut_nil (length l)))

-- a whole one in front of others
pub first_ledger : (l ys : List ℕ) → length l ≡ size_in_front l → ledgers_in (l ++ ys) ≡ l ∷ ledgers_in ys
unfolding ledgers_in cut
first_ledger [] ys h = absurd (omega (arith, two_at_least []))
first_ledger (x ∷ l) ys h =
    let two = two_at_least (x ∷ l) in
    let same : size_in_front ((x ∷ l) ++ ys) ≡ size_in_front (x ∷ l) = size_append (x ∷ l) ys (omega (arith, two)) in
    let long = length-append l ys in
    rw (same, take_at (x ∷ l) ys (size_in_front (x ∷ l)) h, drop_at (x ∷ l) ys (size_in_front (x ∷ l)) h)
    (ap (λ (ls : List (List ℕ)). (x ∷ l) ∷ ls)
    (cut_enough (length (l ++ ys)) (length ys) ys (omega (arith, long)) (omega arith)))

-- bytes that end with a whole ledger: what stands behind them is cut as if it stood alone
abbrev pub Closed : List ℕ → Type 0
Closed xs = (ys : List ℕ) → ledgers_in (xs ++ ys) ≡ ledgers_in xs ++ ledgers_in ys

pub closed_nil : Closed []
unfolding ledgers_in cut
closed_nil ys = refl

pub one_more : (xs l : List ℕ) → Closed xs → 0 < length l → length l ≤ size_in_front l
    → ledgers_in (xs ++ l) ≡ ledgers_in xs ++ (l ∷ [])
one_more xs l c h k = c l ∙ ap (λ (ls : List (List ℕ)). ledgers_in xs ++ ls) (last_ledger l h k)

pub closed_more : (xs l : List ℕ) → Closed xs → length l ≡ size_in_front l → Closed (xs ++ l)
closed_more xs l c h ys =
    let two = two_at_least l in
    let one : ledgers_in (xs ++ l) ≡ ledgers_in xs ++ (l ∷ []) = one_more xs l c (omega (arith, two)) (omega arith) in
    let a = ap ledgers_in (append_assoc xs l ys) ∙ c (l ++ ys)
    ∙ ap (λ (ls : List (List ℕ)). ledgers_in xs ++ ls) (first_ledger l ys h) in
    let b = ap (λ (ls : List (List ℕ)). ls ++ ledgers_in ys) one
    ∙ append_assoc (ledgers_in xs) (l ∷ []) (ledgers_in ys) in
    a ∙ sym b

-- ---- nothing is lost

-- the library's word for lists one after the other, by its first
pub concat_none : concat [] ≡ []
concat_none = concat_is []

pub concat_more : (l : List ℕ) (ls : List (List ℕ)) → concat (l ∷ ls) ≡ l ++ concat ls
concat_more l ls =
    concat_is (l ∷ ls) ∙ flat_map-cons (λ (x : List ℕ). x) l ls ∙ ap (λ (t : List ℕ). l ++ t) (sym (concat_is ls))

joined_cut : (n : ℕ) (xs : List ℕ) → length xs ≤ n → concat (cut n xs) ≡ xs
unfolding cut
joined_cut zero [] h = concat_none
joined_cut zero (x ∷ xs) h = absurd (omega arith)
joined_cut (suc n) [] h = concat_none
joined_cut (suc n) (x ∷ xs) h =
    let size : ℕ = size_in_front (x ∷ xs) in
    let less = length-drop size (x ∷ xs) in
    let two = two_at_least (x ∷ xs) in
    concat_more (take size (x ∷ xs)) (cut n (drop size (x ∷ xs)))
    ∙ ap (λ (t : List ℕ). take size (x ∷ xs) ++ t) (joined_cut n (drop size (x ∷ xs)) (omega (arith, less, two)))
    ∙ take-append-drop size (x ∷ xs)

-- the ledgers of an archive, one after the other, are the archive
pub joined_ledgers : (xs : List ℕ) → concat (ledgers_in xs) ≡ xs
unfolding ledgers_in
joined_ledgers xs = joined_cut (length xs) xs (omega arith)
