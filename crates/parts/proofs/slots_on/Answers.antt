-- `slots_on` meets its contract: the whole bytes' set bits, and those of the bits left over.
-- Assumes nothing.
use Rattle.std.proofs.Common.{◌≡◌, ◌+◌, ◌*◌, ◌/◌, ◌%◌, ◌≤◌, ◌∙◌, take, drop, arith, rules, tests, slice_range}
use lib.Count as count
use Rattle.std.proofs.lemmas.Iterator.{YieldsList-from_slice, YieldsList-from_map}
use Rattle.std.proofs.lemmas.Iterator.Consumers.{sum_by_from_yields_List, fits_by_from_yields_list}
use Rattle.parts.proofs.Ones.{summed, turn}
use Rattle.parts.proofs.slots_on.Goals as goal
use Rattle.parts.proofs.slots_on.Goals.{After-sum-on}
use Rattle.format.specs.Digits.{bits_of}
use Rattle.format.specs.ByName.{ones}

pub sum-on-requires-clause-fits : goal.sum-on-requires-clause-fits
sum-on-requires-clause-fits c =
    let a = c.args in
    let ys = slice_range a.s.now a.start (a.start + a.size / 8) in
    let all = summed a.s.now a.start (a.size / 8) (omega arith) (λ i. omega (arith, c.type_inv.s i)) in
    fits_by_from_yields_list count.ones ys c.map.result _
    (YieldsList-from_map _ count.ones (YieldsList-from_slice ys cc) c.map.ensures.closure (λ x r q k. search (rules, tests)))
    (omega (arith, all.few))

-- the whole bytes
bytes : (c : After-sum-on) → let a = c.args in (c.sum-on.result ≤ 8 * (a.size / 8)) × (c.sum-on.result ≡ ones (take (8 * (a.size / 8)) (drop (8 * a.start) (bits_of a.s.now))))
bytes c =
    let a = c.args in
    let ys = slice_range a.s.now a.start (a.start + a.size / 8) in
    let all = summed a.s.now a.start (a.size / 8) (omega arith) (λ i. omega (arith, c.type_inv.s i)) in
    let sum = sum_by_from_yields_List count.ones ys c.map.result _ c.sum-on.ensures.ran
    (YieldsList-from_map _ count.ones (YieldsList-from_slice ys cc) c.map.ensures.closure (λ x r q k. search (rules, tests))) in
    (omega (arith, sum, all.few), sum ∙ all.total)

pub returns-then-rest-eq0 : goal.returns-then-rest-eq0
returns-then-rest-eq0 c =
    let a = c.args in
    let e : 8 * (a.size / 8) ≡ a.size = omega arith in
    rw e at (bytes (goal.at.returns-then-rest-eq0 c).After-sum-on).1

pub overflow_add-result-2 : goal.overflow_add-result-2
overflow_add-result-2 c =
    let a = c.args in
    let t = turn a.s.now a.start (a.size / 8) (a.size % 8) (omega arith) (omega arith) (omega (arith, c.type_inv.s (a.start + a.size / 8))) in
    record { fits = omega (arith, (bytes (goal.at.overflow_add-result-2 c).After-sum-on).0, t.few) }

pub returns : goal.returns
returns c =
    let a = c.args in
    let t = turn a.s.now a.start (a.size / 8) (a.size % 8) (omega arith) (omega arith) (omega (arith, c.type_inv.s (a.start + a.size / 8))) in
    let e : 8 * (a.size / 8) + a.size % 8 ≡ a.size = omega arith in
    rw (bytes (goal.at.returns c).After-sum-on).1 (rw e at t.next)
