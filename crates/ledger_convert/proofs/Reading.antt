-- What reads leave in a buffer, and what they take of the input.
-- Assumes nothing.
use Prim.Native.Nat.{ℕ, ◌+◌, ◌-◌, ◌<◌, ◌≤◌}
use native.Mathlib.Omega.{arith}
use mathlib.Core.Path.{◌≡◌, sym, ap, ◌∙◌, subst}
use mathlib.Core.List.{List, ◌++◌}
use lib.ListN.{length, take, drop, length-append}
use lib.Seq.{take_at, drop_at, take-add, take-append-le, length-take-le}
use borrow.Rule.Slice.PartMut.{post_of, put_mid}
use Rattle.std.specs.Prelude.{Option, Result, Ok, Err, IsErr}
use Rattle.std.specs.Io.KnownBytes.{Consumes, Keeps}
use Rattle.std.proofs.KnownBytes.{Consumes-trans, Consumes-kept}
use Rattle.std.proofs.Common.{take_all}
use Rattle.ledger_convert.specs.Archive.{size_in_front}
use Rattle.ledger_convert.specs.Streams.{Filled, Fetched}
use Rattle.ledger_convert.proofs.Cuts.{two_at_least, size_append}

-- a part that came back with n new bytes at its start, behind the front of the buffer
took_more : (buf part after : List ℕ) (at n : ℕ) → at ≤ length buf → n ≤ length part
    → take (at + n) (take at buf ++ (part ++ after)) ≡ take at buf ++ take n part
took_more buf part after at n h k =
    let long = length-take-le at buf h in
    take-add at n (take at buf ++ (part ++ after))
    ∙ ap (λ (t : List ℕ). t ++ take n (drop at (take at buf ++ (part ++ after))))
    (take_at (take at buf) (part ++ after) at long)
    ∙ ap (λ (t : List ℕ). take at buf ++ take n t) (drop_at (take at buf) (part ++ after) at long)
    ∙ ap (λ (t : List ℕ). take at buf ++ t) (take-append-le n part after k)

pub filled_more : (a b c : Option (List ℕ)) (buf part : List ℕ) (at room n : ℕ) → at ≤ length buf → n ≤ length part
    → Consumes a b (take at buf) → Consumes b c (take n part) → Consumes a c (take (at + n) (put_mid at room buf part))
filled_more a b c buf part at room n h k p q =
    subst (Consumes a c) (sym (took_more buf part (post_of at room buf) at n h k)) (Consumes-trans a b c _ _ p q)

-- and one that came back after an error
pub filled_kept : (a b c : Option (List ℕ)) (buf part : List ℕ) (at room : ℕ) → at ≤ length buf
    → Consumes a b (take at buf) → Keeps b c → Consumes a c (take at (put_mid at room buf part))
filled_kept a b c buf part at room h p q =
    subst (Consumes a c) (sym (take_at (take at buf) (part ++ post_of at room buf) at (length-take-le at buf h)))
    (Consumes-kept a b c _ p q)

-- fewer than the two bytes of a length
pub fetched_short : (old new : Option (List ℕ)) (part after : List ℕ) (n : ℕ) → length part ≡ 2 → n < 2
    → Filled {E = Unit {0}} old new part (Ok n) → Fetched {E = Unit {0}} old new (part ++ after) (Ok n)
fetched_short old new part after n h k f =
    let same = take-append-le n part after f.0 in (
      omega (arith, f.0, length-append part after),
      subst (Consumes old new) (sym same) f.1,
      omega (arith, k, two_at_least (take n (part ++ after))),
      λ _. f.2 (omega arith),
    )

-- a read failed behind them
pub fetched_failed : {E : Type 0} (old mid new : Option (List ℕ)) (part whole more : List ℕ) (r : Result ℕ E)
    → Consumes old mid part → Consumes mid new more → IsErr r → Fetched old new whole r
fetched_failed old mid new part whole more (Ok n) p q h = absurd cc
fetched_failed old mid new part whole more (Err e) p q h = (part ++ more, Consumes-trans old mid new part more p q)

-- the bytes of a length, and those behind them
pub fetched_long : (old mid new : Option (List ℕ)) (part part' rest after : List ℕ) (n size : ℕ) → length part ≡ 2
    → Consumes old mid (take 2 part) → size ≡ size_in_front part → length part' ≡ size - 2
    → Filled {E = Unit {0}} mid new part' (Ok n)
    → Fetched {E = Unit {0}} old new (take 2 (part ++ rest) ++ (part' ++ after)) (Ok (2 + n))
fetched_long old mid new part part' rest after n size h p s l f =
    let front : take 2 (part ++ rest) ≡ part = take_at part rest 2 h in
    let whole : List ℕ = take 2 (part ++ rest) ++ (part' ++ after) in
    let two = two_at_least part in
    let all : take (2 + n) whole ≡ part ++ take n part' =
    took_more (part ++ rest) part' after 2 n (omega (arith, h, length-append part rest)) f.0
    ∙ ap (λ (t : List ℕ). t ++ take n part') front in
    let same : size_in_front (take (2 + n) whole) ≡ size =
    ap size_in_front all ∙ size_append part (take n part') (omega (arith, h)) ∙ sym s in
    let started : Consumes old mid part = subst (Consumes old mid) (take_all 2 part (omega (arith, h))) p in
    let long : length whole ≡ 2 + (length part' + length after) =
    length-append (take 2 (part ++ rest)) (part' ++ after)
    ∙ omega (arith, ap length front, h, length-append part' after) in (
      omega (arith, long, f.0),
      subst (Consumes old new) (sym all) (Consumes-trans old mid new part (take n part') started f.1),
      omega (arith, same, f.0, l, s, two),
      λ less. f.2 (omega (arith, same, less, l, s, two)),
    )
