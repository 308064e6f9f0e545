-- Values of 32 bits: put into an array one behind another, and as the numbers of fields of one name.
-- Assumes nothing.
use Prim.Native.Nat.{ℕ, zero, suc, ◌+◌, ◌-◌, ◌*◌, ◌<◌}
use mathlib.Core.Path.{◌≡◌, refl, sym, ap, ◌∙◌}
use mathlib.Core.List.{List, [], ◌∷◌, ◌++◌}
use native.Mathlib.Omega.{arith}
use lib.ListN.{length, set, replicate}
use lib.Seq.{set_at, append_snoc}
use Rattle.format.specs.Digits.{value_at}
use Rattle.format.specs.Syntax.{Name}
use Rattle.format.proofs.GroupLaws.{Line, plainly}
use Rattle.format.proofs.ListLaws.{many}
use Rattle.passing.proofs.Passing.{Finds}
use Rattle.ephemeris.specs.Ephemeris.{all_by, words_at}

length_words : (b : List ℕ) (p n : ℕ) → length (words_at b p n) ≡ n
unfolding words_at
length_words b p zero = refl
length_words b p (suc n) = ap suc (length_words b (p + 32) n)

words_more : (b : List ℕ) (p n : ℕ) → words_at b p (suc n) ≡ words_at b p n ++ (value_at b (p + 32 * n) 32 ∷ [])
unfolding words_at
words_more b p zero = ap (λ (k : ℕ). value_at b k 32 ∷ []) (omega arith)
words_more b p (suc n) =
    let e : p + 32 + 32 * n ≡ p + 32 * suc n = omega arith in
    rw (← e) (ap (λ (l : List ℕ). value_at b p 32 ∷ l) (words_more b (p + 32) n))

-- one turn: the first i of n are in, the others 0
pub put_word : (b l : List ℕ) (p i n v : ℕ) → i < n → l ≡ words_at b p i ++ replicate (n - i) 0
    → v ≡ value_at b (p + 32 * i) 32
    → set l i v ≡ words_at b p (i + 1) ++ replicate (n - (i + 1)) 0
put_word b l p i n v h e q =
    let f : n - i ≡ suc (n - (i + 1)) = omega arith in
    let g : i + 1 ≡ suc i = omega arith in
    rw (e, f, q)
    (set_at (words_at b p i) 0 (replicate (n - (i + 1)) 0) (value_at b (p + 32 * i) 32) i (length_words b p i)
    ∙ sym (append_snoc (words_at b p i) (value_at b (p + 32 * i) 32) (replicate (n - (i + 1)) 0))
    ∙ ap (λ (w : List ℕ). w ++ replicate (n - (i + 1)) 0) (sym (ap (words_at b p) g ∙ words_more b p i)))

-- ---- the numbers of all the fields of a name

abbrev pub element_lines : List Line
element_lines = plainly "covariance_elements" 32 ∷ []

pub all_finds : (nm : Name) → Finds nm (λ _ ts. all_by nm ts)
unfolding all_by
all_finds nm p t ts h = rw h

pub all_words : (b : List ℕ) (p n : ℕ) → all_by "covariance_elements" (many b p n element_lines []) ≡ words_at b p n
unfolding all_by words_at many
all_words b p zero = refl
all_words b p (suc n) = ap (λ (l : List ℕ). value_at b p 32 ∷ l) (all_words b (p + 32) n)
