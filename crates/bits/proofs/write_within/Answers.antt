-- `write_within` meets its contract: what is stored are the bytes that the field touches, with its bits in place of theirs.
-- Assumes nothing.
use Prim.Native.Nat.{ℕ, ◌+◌, ◌-◌, ◌*◌, ◌/◌, ◌%◌}
use mathlib.Core.Path.{◌≡◌, ap, ◌∙◌}
use native.Mathlib.Nat.{lt_of_lt_of_le}
use native.Mathlib.Omega.{arith}
use lib.Pow.{pow_mono}
use Rattle.format.specs.Digits.{digits, value_at, splice}
use Rattle.bits.proofs.Values.{value_at_lt}
use Rattle.bits.proofs.Spans.{spanned}
use Rattle.bits.proofs.write_within.Goals as goal

pub joined-requires : goal.joined-requires
joined-requires c = (
  lt_of_lt_of_le (rw c.first_bits-head.ensures (value_at_lt _ _ _)) (pow_mono {i = c.args.at % 8} (omega arith)),
  rw c.last_bits-tail.ensures (value_at_lt _ _ _),
  omega arith,
  omega arith,
  omega arith,
)

pub returns : goal.returns
returns c =
    let a = c.args in
    let l = a.out.now in
    let q = a.at / 8 in
    let off = a.at % 8 in
    let n = (off + a.width + 7) / 8 in
    let m = 8 * n - off - a.width in
    let p : 8 * q + off ≡ a.at = omega arith in
    let e : 8 * (q + n - 1) + (8 - m) ≡ 8 * q + off + a.width = omega arith in
    let tail = c.last_bits-tail.ensures ∙ ap (λ (i : ℕ). value_at l i m) e in
    let put = c.put_be.ensures ∙ ap (λ (x : ℕ). splice l q (digits 256 n x)) c.joined.ensures in
    let first-bits = c.first_bits-head in
    rw p at (spanned l _ q off a.width a.v n m _ _ (omega arith) (omega arith) first-bits.ensures tail put)
