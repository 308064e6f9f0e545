-- What `decimal` spells: every number of 64 bits, by its digits.
-- Assumes nothing.
use Prim.Native.Nat.{ℕ, zero, suc, ◌+◌, ◌*◌, ◌/◌, ◌%◌, ◌^◌, ◌≤◌, ◌<◌}
use native.Mathlib.Nat.{add-mul, mul_assoc, mul_comm, add_assoc, pow-zero, pow-suc}
use native.Mathlib.Nat.{div-add-mod', div-lt_iff_lt-mul, mod-lt}
use native.Mathlib.Omega.{arith}
use mathlib.Core.Path.{◌≡◌, refl, ap, subst, ◌∙◌}
use mathlib.Core.List.{List, [], ◌∷◌, map}
use lib.ListN.{length, get_or, length-append}
use Rattle.format.specs.Digits.{value, Below}
use Rattle.ledger_text.specs.Text.{digits_before, decimal, spaced, refusal_line}

-- the code of a digit: that of `0` is 48, that of `9` is 57
abbrev pub code_of : ℕ → ℕ
code_of d = 48 + d

-- there is a digit, and the first one is 0 only where it is the only one
pub record Leads (ds : List ℕ) : Type 0 where
  pub some_digit : 0 < length ds
  pub leading : get_or ds 0 0 ≡ 0 → length ds ≡ 1

-- a text is a number in decimal: the codes of its digits, most significant first, with no zero in front
pub record Spells (text : List ℕ) (n : ℕ) : Type 0 where
  pub digits : List ℕ
  pub codes : text ≡ map code_of digits
  pub below : Below 10 digits
  pub number : value 10 digits ≡ n
  pub leads : Leads digits

-- the last digit of a number, and the digits before it
carry : (q r p v : ℕ) → q * (p * 10) + (r * p + v) ≡ (q * 10 + r) * p + v
carry q r p v = rw (add-mul (q * 10) r p, mul_assoc q 10 p, mul_comm 10 p, add_assoc (q * (p * 10)) (r * p) v)

-- m in front of digits that are there
before : (k m : ℕ) (later : List ℕ) → m < 10 ^ k → Below 10 later → (m ≡ 0 → Leads later)
    → Spells (digits_before k m (map code_of later)) (m * 10 ^ length later + value 10 later)
unfolding digits_before value
before zero m later h b l =
    let e : m ≡ 0 = omega (arith, rw (pow-zero 10) at h) in
    record { digits = later; codes = refl; below = b; number = rw e (omega arith); leads = l e }
before (suc k) zero later h b l =
    record { digits = later; codes = refl; below = b; number = omega arith; leads = l refl }
before (suc k) (suc m) later h b l =
    let n = suc m in
    let less : n / 10 < 10 ^ k =
    (div-lt_iff_lt-mul {k = 10} {x = n} {y = 10 ^ k} (omega arith)).1 (rw (pow-suc 10 k) at h) in
    let l' : n / 10 ≡ 0 → Leads (n % 10 ∷ later) =
    λ e. record { some_digit = omega arith; leading = λ z. absurd (omega arith) } in
    let s = before k (n / 10) (n % 10 ∷ later) less (mod-lt n (omega arith), b) l' in
    let p : ℕ = 10 ^ length later in
    let v : ℕ = value 10 later in
    let e : n / 10 * 10 ^ suc (length later) + (n % 10 * p + v) ≡ n * p + v =
    rw (pow-suc 10 (length later)) (carry (n / 10) (n % 10) p v ∙ ap (λ (x : ℕ). x * p + v) (div-add-mod' n 10)) in
    subst (Spells (digits_before k (n / 10) ((48 + n % 10) ∷ map code_of later))) e s

-- every number of 64 bits, and all below 10 ^ 20
pub decimal_spells : (n : ℕ) → n < 10 ^ 20 → Spells (decimal n) n
unfolding decimal value
decimal_spells n h =
    let l : n / 10 ≡ 0 → Leads (n % 10 ∷ []) = λ e. record { some_digit = omega arith; leading = λ z. refl } in
    let s = before 19 (n / 10) (n % 10 ∷ []) (omega arith) (mod-lt n (omega arith), tt) l in
    subst (Spells (decimal n)) (omega arith) s

-- it has 20 digits at most
most : (k m : ℕ) (later : List ℕ) → length (digits_before k m later) ≤ k + length later
unfolding digits_before
most zero m later = omega arith
most (suc k) zero later = omega arith
most (suc k) (suc m) later = omega (arith, most k (suc m / 10) ((48 + suc m % 10) ∷ later))

pub decimal_most : (n : ℕ) → length (decimal n) ≤ 20
unfolding decimal
decimal_most n = most 19 (n / 10) ((48 + n % 10) ∷ [])

-- and a refusal's line 65 bytes
pub refusal_most : (number need have : ℕ) → length (refusal_line number need have) ≤ 65
unfolding refusal_line spaced
refusal_most number need have =
    let a = decimal_most number in
    let b = decimal_most need in
    let c = decimal_most have in
    simp length-append (omega arith)
