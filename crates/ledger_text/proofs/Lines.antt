-- That the library's texts are those of the definitions, and how a line is stored.
-- Assumes nothing.
use Prim.Native.Nat.{ℕ, zero, suc, ◌+◌, ◌-◌, ◌*◌, ◌/◌, ◌%◌, ◌^◌, ◌≤◌, ◌<◌}
use mathlib.Core.Path.{◌≡◌, refl, sym, ap, ◌∙◌}
use mathlib.Core.List.{List, [], ◌∷◌, ◌++◌, append-nil, append_assoc}
use native.Mathlib.Omega.{arith}
use borrow.Author.Tests.{le-leb, lt-leb}
use lib.ListN.{length, take, drop, set, get_or, length-append}
use borrow.Rule.Slice.PartMut.{post_of, put_mid, Post-is}
use Rattle.std.specs.Prelude.{Option, Some, None, Result, Ok, Err, IsOk, OnOk, slice_index}
use Rattle.std.specs.Fmt.{decimal as printed}
use Rattle.std.proofs.lemmas.Fmt.{PrependsLastDigit, decimal_from_prepends, length-decimal-le}
use Rattle.hex.specs.Hex.{encode_with, encode_lower, lower_digits}
use Rattle.format.specs.Digits.{Below, splice}
use Rattle.format.specs.Calls.{left}
use Rattle.format.proofs.DigitLaws.{below_of}
use Rattle.bits.proofs.Splices.{length_splice, splice_splice, set_one}
use Rattle.ledger_text.specs.Text.{hex_digit, hex_text, hex_line, decimal, digits_before, spaced, refusal_line}
use Rattle.ledger_text.specs.Text.{placed, Stored}

-- ---- bytes in hexadecimal

-- the values of f at n numbers from k on
values : (ℕ → ℕ) → ℕ → ℕ → List ℕ
values f k zero = []
values f k (suc n) = f k ∷ values f (suc k) n

value_in : (f : ℕ → ℕ) (k n d : ℕ) → d < n → slice_index (values f k n) d ≡ f (d + k)
unfolding values
value_in f k zero d h = absurd (omega arith)
value_in f k (suc n) zero h = ap f (omega arith)
value_in f k (suc n) (suc d) h = value_in f (suc k) n d (omega arith) ∙ ap f (omega arith)

digit_is : (d : ℕ) → d < 16 → slice_index lower_digits d ≡ hex_digit d
unfolding hex_digit values
digit_is d h = value_in hex_digit 0 16 d h ∙ ap hex_digit (omega arith)

pub hex_is : (xs : List ℕ) → Below 256 xs → encode_lower xs ≡ hex_text xs
unfolding hex_text encode_with
hex_is [] h = refl
hex_is (x ∷ xs) h =
    let high = digit_is (x / 16) (omega (arith, h.0)) in
    let low = digit_is (x % 16) (omega arith) in
    let rest = hex_is xs h.1 in
    cc

-- two digits a byte
pub hex_length : (xs : List ℕ) → length (hex_text xs) ≡ 2 * length xs
unfolding hex_text
hex_length [] = refl
hex_length (x ∷ xs) = let e = hex_length xs in omega arith

pub hex_line_length : (xs : List ℕ) → length (hex_line xs) ≡ 2 * length xs + 1
unfolding hex_line
hex_line_length xs = length-append (hex_text xs) (10 ∷ []) ∙ ap (λ (n : ℕ). n + 1) (hex_length xs)

-- ---- a number in decimal

-- n's digits in front of those that are there, in k steps
spelling : ℕ → ℕ → List ℕ → List ℕ
spelling zero n later = later
spelling (suc k) n later = digits_before k (n / 10) ((48 + n % 10) ∷ later)

none_left : (k : ℕ) (later : List ℕ) → digits_before k 0 later ≡ later
unfolding digits_before
none_left zero later = refl
none_left (suc k) later = refl

turn : (k m : ℕ) (later : List ℕ) → 0 < m → digits_before k m later ≡ spelling k m later
unfolding digits_before spelling
turn zero m later h = refl
turn (suc k) zero later h = absurd (omega arith)
turn (suc k) (suc m) later h = refl

last : (k n : ℕ) (later : List ℕ) → n < 10 → spelling (suc k) n later ≡ (48 + n) ∷ later
unfolding spelling
last k n later h =
    let none : n / 10 ≡ 0 = omega arith in
    let same : n % 10 ≡ n = omega arith in
    rw (none, same) (none_left k ((48 + n) ∷ later))

prepends : PrependsLastDigit spelling
unfolding spelling
prepends = record { one = last; more = λ k n later h. turn k (n / 10) ((48 + n % 10) ∷ later) (omega arith) }

pub decimal_is : (n : ℕ) → n < 2 ^ 64 → printed n ≡ decimal n
unfolding decimal spelling
decimal_is n h =
    let short = length-decimal-le 20 n (omega arith) (omega arith) h in
    sym (decimal_from_prepends spelling prepends 20 n [] h short ∙ append-nil (printed n))

-- ---- a line that is stored, and one for which there is no room

pub stored_whole : (line l out : List ℕ) (r : Option ℕ) → length line ≤ length l → r ≡ Some (length line)
    → out ≡ splice l 0 line → Stored line l out r
unfolding left
stored_whole line l out r h p q = let t = le-leb (length line) (length l) h in record { size = rw t p; bytes = rw t q }

pub too_short : (line l : List ℕ) → length l < length line → Stored line l l None
unfolding left
too_short line l h = let t = lt-leb (length line) (length l) h in record { size = rw t; bytes = rw t }

pub stored_fits : {line l out : List ℕ} {r : Option ℕ} → Stored line l out r → length line ≤ length l
    → (r ≡ Some (length line)) × (out ≡ splice l 0 line)
unfolding left
stored_fits {line} {l} s h = let t = le-leb (length line) (length l) h in (rw t at s.size, rw t at s.bytes)

-- it is within the buffer
pub splice_long : (l xs : List ℕ) → length xs ≤ length (splice l 0 xs)
unfolding splice
splice_long l xs = simp length-append (omega arith)

-- what holds of a value holds where there is one
ok_then : {T E : Type 0} (r : Result T E) {P : Type 0} → IsOk r → OnOk r P → P
ok_then (Ok x) h p = p
ok_then (Err e) h p = absurd (cc)

-- a line of its own length in front of the rest of the buffer
in_front : (l line : List ℕ) → line ++ drop (length line) l ≡ splice l 0 line
unfolding splice
in_front l line = ap (λ (n : ℕ). line ++ drop n l) (omega arith)

pub put_stored : (line l o : List ℕ) → length line ≤ length l → o ≡ line
    → Stored line l (o ++ drop (length line) l) (Some (length line))
put_stored line l o h e = stored_whole line l _ _ h refl (rw e (in_front l line))

pub hex_short : (bytes l : List ℕ) → length l ≤ 2 * length bytes → Stored (hex_line bytes) l l None
hex_short bytes l h = too_short (hex_line bytes) l (omega (arith, hex_line_length bytes))

-- the digits that the library laid, and the newline behind them
pub hex_stored : {E : Type 0} {out : List ℕ} (r : Result (Unit {0}) E) (bytes l o : List ℕ) → ((i : ℕ) → get_or bytes i 0 < 256)
    → 2 * length bytes < length l → IsOk r → OnOk r (o ≡ encode_lower bytes)
    → out ≡ set (o ++ drop (2 * length bytes) l) (2 * length bytes) 10
    → Stored (hex_line bytes) l out (Some (2 * length bytes + 1))
unfolding hex_line
hex_stored r bytes l o b h ok laid is =
    let n : ℕ = 2 * length bytes in
    let size = hex_length bytes in
    let digits : o ≡ hex_text bytes = ok_then r ok laid ∙ hex_is bytes (below_of 256 bytes b) in
    let front : hex_text bytes ++ drop n l ≡ splice l 0 (hex_text bytes) =
    ap (λ (k : ℕ). hex_text bytes ++ drop k l) (sym size) ∙ in_front l (hex_text bytes) in
    let room : n < length (splice l 0 (hex_text bytes)) = rw (length_splice l 0 (hex_text bytes) (omega arith)) h in
    let all : set (hex_text bytes ++ drop n l) n 10 ≡ splice l 0 (hex_line bytes) =
    ap (λ (k : List ℕ). set k n 10) front ∙ set_one _ n 10 room
    ∙ splice_splice l 0 (hex_text bytes) (10 ∷ []) n (omega arith) (omega arith) in
    let long = hex_line_length bytes in
    stored_whole (hex_line bytes) l _ _ (omega (arith, long)) (ap Some (sym long)) (is ∙ rw digits all)

-- what a number's digits add to a line, and a number behind a space
pub digits_added : {E : Type 0} (r : Result (Unit {0}) E) (n : ℕ) (line text out : List ℕ) → n < 2 ^ 64
    → text ≡ printed n → IsOk r → OnOk r (out ≡ line ++ text) → out ≡ line ++ decimal n
digits_added r n line text out h q ok e = ok_then r ok e ∙ ap (λ (t : List ℕ). line ++ t) (q ∙ decimal_is n h)

pub number_added : (n : ℕ) (line a out : List ℕ) → a ≡ line ++ (32 ∷ []) → out ≡ a ++ decimal n → out ≡ line ++ spaced n
unfolding spaced
number_added n line a out p e = e ∙ rw p (append_assoc line (32 ∷ []) (decimal n))

-- a refusal's line, piece by piece
pub refusal_laid : (number need have : ℕ) (first a b c line : List ℕ) → first ≡ 82 ∷ []
    → a ≡ first ++ spaced number → b ≡ a ++ spaced need → c ≡ b ++ spaced have → line ≡ c ++ (10 ∷ []) → line ≡ refusal_line number need have
unfolding refusal_line
refusal_laid number need have first a b c line f p q r s = rw (s, r, q, p, f) (simp append_assoc)

-- a place, a space, and the line behind them
pub placed_laid : (place : ℕ) (line a front : List ℕ) → a ≡ decimal place → front ≡ a ++ (32 ∷ [])
    → front ++ line ≡ placed place line
unfolding placed
placed_laid place line a front d e = ap (λ (t : List ℕ). t ++ line) (e ∙ ap (λ (t : List ℕ). t ++ (32 ∷ [])) d)

pub placed_length : (place : ℕ) (line front : List ℕ) → front ++ line ≡ placed place line
    → length (placed place line) ≡ length front + length line
placed_length place line front e = ap length (sym e) ∙ length-append front line

-- two pieces, one behind the other, in a buffer that has room for both
pub placed_stored : (place : ℕ) (line front l o o' : List ℕ) (n : ℕ) → front ++ line ≡ placed place line
    → n ≡ length front → n + length line ≤ length l → o ≡ front → o' ≡ line
    → Stored (placed place line) l (put_mid n (n + length line - n) (o ++ drop n l) o') (Some (n + length line))
unfolding splice
placed_stored place line front l o o' n w k h p r =
    let m : List ℕ = o ++ drop n l in
    let first : m ≡ splice l 0 front = rw (p, k) (in_front l front) in
    let room : 0 + length front ≤ length l = omega arith in
    let start : n ≡ 0 + length front = omega arith in
    let both : splice (splice l 0 front) n line ≡ splice l 0 (front ++ line) =
    splice_splice l 0 front line n start room in
    let post : post_of n (n + length line - n) m ≡ drop (n + length line) m =
    Post-is n (n + length line) m (omega arith) in
    let ends : put_mid n (n + length line - n) m o' ≡ splice m n line =
    rw (post, r) (sym (append_assoc (take n m) line (drop (n + length line) m))) in
    let bytes = ends ∙ ap (λ (t : List ℕ). splice t n line) first ∙ both ∙ ap (splice l 0) w in
    let long = placed_length place line front w in
    stored_whole (placed place line) l _ _ (omega (arith, long)) (ap Some (omega (arith, long))) bytes
