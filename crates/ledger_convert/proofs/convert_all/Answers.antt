-- `convert_all` takes the ledgers one by one, and tells of each.
-- Assumes nothing.
use native.Mathlib.Omega.{arith}
use mathlib.Core.Path.{◌≡◌, refl, ◌∙◌}
use mathlib.Core.Bool.{◌&&◌}
use mathlib.Core.List.{[], ◌++◌}
use Prim.Native.Nat.{◌+◌, ◌*◌, ◌≤◌}
use lib.ListN.{length, take}
use Rattle.ledger_convert.specs.Archive.{size_in_front}
use lib.Seq.{length-take-le}
use Rattle.std.proofs.KnownBytes.{Consumes-nil}
use Rattle.ledger_convert.proofs.Cuts.{closed_nil, closed_more}
use Rattle.ledger_convert.proofs.Told.{told_none, none_empty}
use Rattle.ledger_convert.proofs.Steps.{ended, further, stepped}
use Rattle.ledger_convert.proofs.convert_all.Goals.{then-all, else-all}
use Rattle.ledger_convert.proofs.convert_all.Goals as goal

pub loop-init : goal.loop-init
loop-init g c =
    ([], closed_nil, Consumes-nil _, refl, omega arith, told_none c.args.edition _ _, none_empty c.args.edition)

pub returns-then-size-eq0 : goal.returns-then-size-eq0
returns-then-size-eq0 g c =
    let s = c.loop.invariant in
    let e = ended _ _ _ s.0 c.read_ledger.new.ledger c.in-Ok.size s.2 c.in-Ok.ensures c.if-size-eq0.true in
    (s.0, e.0, e.1, s.5, s.6)

pub returns-then-size-size_in_front : goal.returns-then-size-size_in_front
returns-then-size-size_in_front g c =
    let s = c.loop.invariant in
    let l = take c.in-Ok.size c.read_ledger.new.ledger in
    let all : c.if-all.all ≡ c.loop.all && c.in-Ok-convert_one.converted =
    elim c.if-all.branch [
      | then-all w ↦ rw (w.all-is, w.if-all.true) refl
      | else-all w ↦ rw (w.all-is, w.if-all.false) refl
    ] in
    let e = stepped c.args.edition _ _ _ _ _ _ _ _ _ s.0 c.read_ledger.new.ledger c.in-Ok.size c.loop.place c.loop.all
    c.in-Ok-convert_one.converted s.3 s.1 c.in-Ok.ensures s.2 s.5 s.6 c.if-size-eq0.false c.in-Ok-convert_one.ensures in
    let less = rw c.size_in_front.ensures.is at c.if-size-size_in_front.true in
    (s.0 ++ l, e.0, c.in-Ok.ensures.3 less, e.1, all ∙ e.2)

pub loop-preserved : goal.loop-preserved
loop-preserved g c =
    let s = c.loop.invariant in
    let l = take c.in-Ok.size c.read_ledger.new.ledger in
    let all : c.if-all.all ≡ c.loop.all && c.in-Ok-convert_one.converted =
    elim c.if-all.branch [
      | then-all w ↦ rw (w.all-is, w.if-all.true) refl
      | else-all w ↦ rw (w.all-is, w.if-all.false) refl
    ] in
    let e = stepped c.args.edition _ _ _ _ _ _ _ _ _ s.0 c.read_ledger.new.ledger c.in-Ok.size c.loop.place c.loop.all
    c.in-Ok-convert_one.converted s.3 s.1 c.in-Ok.ensures s.2 s.5 s.6 c.if-size-eq0.false c.in-Ok-convert_one.ensures in
    let far = further _ _ s.0 c.read_ledger.new.ledger c.in-Ok.size c.loop.place s.3 c.in-Ok.ensures in
    let long = length-take-le c.in-Ok.size c.read_ledger.new.ledger c.in-Ok.ensures.0 in
    let whole : length l ≡ size_in_front l =
    omega (arith, long, c.in-Ok.ensures.2, c.size_in_front.ensures.is, c.if-size-size_in_front.false) in
    let most : c.loop.place + c.in-Ok.size ≤ 65537 * (c.loop.counter + 1) =
    omega (arith, s.4, c.in-Ok.ensures.0, c.if-all.array_long) in
    (s.0 ++ l, closed_more s.0 l s.1 whole, e.0, far, most, e.1, all ∙ e.2)
