-- `read_raw`: a length that is missing, bytes that are, and bytes laid.
-- Assumes nothing.
use Prim.Native.Nat.{◌+◌}
use mathlib.Core.Path.{refl}
use borrow.Author.Rules.{rules}
use Rattle.read_plans.proofs.SlotLaws.{part_of, raw_short, raw_missing, raw_came}
use Rattle.format.proofs.DigitLaws.{length_bits}
use Rattle.read_runs.proofs.Stores.{fits}
use Rattle.read_plans.proofs.read_raw.Goals as goal

pub returns-then-from-lt2 : goal.returns-then-from-lt2
returns-then-from-lt2 c = λ way nm. record { to = rw c.refused_at.ensures (raw_short _ _ _ nm c.args.from.placed.within c.if-from-lt2.true) }

pub returns-then-from-start : goal.returns-then-from-start
returns-then-from-start c =
    λ way nm. record
    { to = rw c.refused_at-then-from-start.ensures (raw_missing _ _ _ nm c.args.from.placed.within _ c.if-from-lt2.false c.get_be-count.ensures c.if-from-start.true) }

pub returns : goal.returns
returns c =
    let a = c.args in
    let get-be = c.get_be-count in
    let if1 = c.if-from-lt2 in
    let pre = c.requires in
    λ way nm. record
    { to = record { same = refl; came = raw_came _ _ _ nm a.from.placed.within _ if1.false get-be.ensures c.if-from-start.false (part_of a.from.ledger.now (a.from.place + 2) get-be.result) (fits _ _ _ _ _ c.lay_bytes.ensures (length_bits _)) (search rules) } }
