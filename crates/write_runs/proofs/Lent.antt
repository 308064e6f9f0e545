-- A step over a part `&mut out[from..]` that was lent: what it says of the whole buffer.
-- Assumes nothing.
use Prim.Native.Nat.{ℕ, ◌+◌, ◌-◌, min}
use mathlib.Core.Path.{◌≡◌, ap, ◌∙◌}
use mathlib.Core.List.{List}
use native.Mathlib.Omega.{arith}
use lib.ListN.{length}
use borrow.Rule.Slice.PartMut.{mid_of, put_mid, mid_len, same_len_mid}
use Rattle.format.specs.Digits.{splice}
use Rattle.format.specs.Syntax.{Syntax}
use Rattle.format.specs.Ledger.{ledger}
use Rattle.bits.proofs.Splices.{part_splice}
use Rattle.write_runs.specs.Went.{Around, Went}

-- the part starts at the place, or at the buffer's end where the place is past it
pub lent : {body part : List ℕ} {e : Around} {at a size : ℕ} {s s' : Syntax} (out : List ℕ) (from there : ℕ) → from ≡ min there (length out)
    → Went body e s at 0 (mid_of from (length out - from) out) s' a size part
    → Went body e s at there out s' a (there + size) (put_mid from (length out - from) out part)
lent {part = part} {e} {size = size} out from there h w =
    let z : size ≡ 0 + length (ledger e.edition w.ts) = w.size in
    let n : length (mid_of from (length out - from) out) ≡ length out - from = mid_len from (length out) out (omega arith) in
    record {
      ts = w.ts;
      reads = w.reads;
      size = omega arith;
      bytes = λ r. part_splice out part (ledger e.edition w.ts) from (omega arith) (w.bytes (omega arith))
          ∙ ap (λ (x : ℕ). splice out x (ledger e.edition w.ts)) (omega arith);
      long = same_len_mid from (length out - from) out part w.long;
      within = w.within;
      slack = omega (arith, w.slack);
    }
