-- Laws of the way forward.
-- Assumes nothing.
use Prim.Native.Nat.{ℕ, suc, ◌+◌, ◌%◌, ◌<◌}
use mathlib.Core.Path.{◌≡◌, sym, ap, ◌∙◌}
use native.Mathlib.Omega.{arith}
use lib.IntN.{ℤ, pos, negsuc}
use Rattle.clock_order.specs.Clock.{turn, forward}
use Rattle.clock_order.specs.Order.{Shifted}

-- ---- it reaches its goal, and is the only one below a turn

pub forward_below : (a b : ℕ) → forward a b < turn
unfolding forward
forward_below a b = omega arith

pub forward_reaches : (a b : ℕ) → (a + forward a b) % turn ≡ b % turn
unfolding forward
forward_reaches a b = omega arith

pub forward_only : (a b d : ℕ) → d < turn → (a + d) % turn ≡ b % turn → forward a b ≡ d
unfolding forward
forward_only a b d h e = omega arith

-- ---- back again, and a way of 0 ticks

-- there and back is a full turn, unless both are the same instant
pub forward_back : (a b : ℕ) → 0 < forward a b → forward a b + forward b a ≡ turn
unfolding forward
forward_back a b h = omega arith

pub forward_none : (a b : ℕ) → forward a b ≡ 0 → a % turn ≡ b % turn
unfolding forward
forward_none a b e = omega arith

pub none_forward : (a b : ℕ) → a % turn ≡ b % turn → forward a b ≡ 0
unfolding forward
none_forward a b e = omega arith

-- ---- a shift keeps it

-- equal remainders stay equal, however far both go on
go_on : (x y d : ℕ) → x % turn ≡ y % turn → (x + d) % turn ≡ (y + d) % turn
go_on x y d e = omega arith

-- both ticks gone on by so much
shift_on : (s a b a' b' : ℕ) → (a + s) % turn ≡ a' % turn → (b + s) % turn ≡ b' % turn → forward a' b' ≡ forward a b
shift_on s a b a' b' p q =
    forward_only a' b' (forward a b) (forward_below a b) (reaches (forward a b) (forward_reaches a b))
  where
    reaches : (f : ℕ) → (a + f) % turn ≡ b % turn → (a' + f) % turn ≡ b' % turn
    reaches f e =
        let turned : a + s + f ≡ a + f + s = omega arith in
        sym (go_on (a + s) a' f p) ∙ ap (λ (x : ℕ). x % turn) turned ∙ go_on (a + f) b s e ∙ q

pub forward_shift : (s : ℤ) (a b a' b' : ℕ) → Shifted s a a' → Shifted s b b' → forward a' b' ≡ forward a b
forward_shift (pos s) a b a' b' p q = shift_on s a b a' b' p q
forward_shift (negsuc s) a b a' b' p q = sym (shift_on (suc s) a' b' a b (sym p) (sym q))
