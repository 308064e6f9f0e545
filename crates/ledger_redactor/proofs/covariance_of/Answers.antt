-- `covariance_of` adds the sizes up, each of which is within the ledger.
-- Assumes nothing.
use Prim.Native.Nat.{◌+◌}
use native.Mathlib.Omega.{arith}
use Rattle.format.proofs.DigitLaws.{below_of}
use Rattle.read_plans.proofs.KeptLaws.{two_bytes}
use Rattle.ledger_redactor.proofs.Sizes.{ten, count_there, start_is, start_there, end_is}
use Rattle.ledger_redactor.proofs.covariance_of.Goals as goal

pub flags_at-flags-requires : goal.flags_at-flags-requires
flags_at-flags-requires c = ten c.args.ledger.now c.args.place c.requires.0

pub overflow_add-count_place : goal.overflow_add-count_place
overflow_add-count_place c = omega (arith, ten c.args.ledger.now c.args.place c.requires.0, c.requires.1)

pub overflow_add-count_place-2 : goal.overflow_add-count_place-2
overflow_add-count_place-2 c =
    let l = c.args.ledger.now in
    omega (arith, count_there l c.args.place c.flags_at-flags.ensures c.metadata_size.ensures c.requires.0, c.requires.1)

pub get_be-count-requires : goal.get_be-count-requires
get_be-count-requires c =
    let l = c.args.ledger.now in
    omega (arith, count_there l c.args.place c.flags_at-flags.ensures c.metadata_size.ensures c.requires.0)

pub overflow_add-start : goal.overflow_add-start
overflow_add-start c =
    let l = c.args.ledger.now in
    omega (arith, count_there l c.args.place c.flags_at-flags.ensures c.metadata_size.ensures c.requires.0, c.requires.1)

pub entries_size-requires : goal.entries_size-requires
entries_size-requires c =
    let l = c.args.ledger.now in
    let b = below_of 256 l (λ i. omega (arith, c.type_inv.ledger i)) in
    let there = count_there l c.args.place c.flags_at-flags.ensures c.metadata_size.ensures c.requires.0 in
    omega (arith, two_bytes l (c.args.place + 10 + c.metadata_size.result) b there, c.get_be-count.ensures)

pub overflow_add-start-2 : goal.overflow_add-start-2
overflow_add-start-2 c =
    let f = c.flags_at-flags.ensures in
    let n = c.get_be-count.ensures in
    let there = start_there c.args.ledger.now c.args.place f c.metadata_size.ensures n c.entries_size.ensures in
    omega (arith, there c.requires.0, c.requires.1)

pub overflow_add-end : goal.overflow_add-end
overflow_add-end c =
    let f = c.flags_at-flags.ensures in
    let n = c.get_be-count.ensures in
    let s = c.entries_size.ensures in
    let is = end_is c.args.ledger.now c.args.place f c.metadata_size.ensures n s c.covariance_size.ensures in
    omega (arith, is, c.requires.0, c.requires.1)

pub returns-clause-start : goal.returns-clause-start
returns-clause-start c =
    start_is c.args.ledger.now c.args.place c.flags_at-flags.ensures c.metadata_size.ensures c.get_be-count.ensures
    c.entries_size.ensures

pub returns-clause-end : goal.returns-clause-end
returns-clause-end c =
    end_is c.args.ledger.now c.args.place c.flags_at-flags.ensures c.metadata_size.ensures c.get_be-count.ensures
    c.entries_size.ensures c.covariance_size.ensures
