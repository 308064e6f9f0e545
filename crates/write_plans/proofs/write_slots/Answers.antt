-- `write_slots`: slots that are there, and slots that are not.
-- Assumes nothing.
use mathlib.Core.Path.{refl}
use native.Mathlib.Omega.{arith}
use Rattle.format.proofs.Passed.{carried}
use Rattle.bit_reader.proofs.Reading.{had, lacked}
use Rattle.write_plans.proofs.SlotLaws.{slots_done, slots_no}
use Rattle.write_plans.proofs.write_slots.Goals as goal

pub returns-in_err-enough : goal.returns-in_err-enough
returns-in_err-enough c =
    let l = lacked _ _ _ _ c.enough.ensures c.in_err-enough.was in
    rw (carried c.from_residual.ensures, l.1) (λ e nm s. record { to = slots_no _ e _ nm _ s l.0 })

pub write_bits-requires : goal.write_bits-requires
write_bits-requires c =
    let p = c.args.from.placed in
    let h = had _ _ _ _ c.enough.ensures c.in_ok-enough.was in
    (p.short, omega (arith, p.within, h), omega (arith, p.within, p.short, p.behind))

pub overflow_cast-result-2 : goal.overflow_cast-result-2
overflow_cast-result-2 c =
    let p = c.args.from.placed in
    let h = had _ _ _ _ c.enough.ensures c.in_ok-enough.was in
    omega (arith, p.short, p.within, h, c.requires.at_value.0)

pub invariant_of-result : goal.invariant_of-result
invariant_of-result c =
    let p = c.args.from.placed in
    let h = had _ _ _ _ c.enough.ensures c.in_ok-enough.was in
    let z = c.requires.at_value.0 in
    record {
      placed = record {
        short = p.short;
        within = omega (arith, p.short, p.within, h, z);
        behind = omega (arith, p.short, p.within, p.behind, h, z);
      };
    }

pub returns : goal.returns
returns c =
    let pre = c.requires in
    let h = had _ _ _ _ c.enough.ensures c.in_ok-enough.was in
    λ e nm s. record
    { to = (refl, slots_done nm s pre.at_value.0 (omega (arith, c.args.from.placed.within, h)) c.write_bits.ensures) }
