-- `read_header` meets its contract: two tests, and six values at their places.
-- Assumes nothing.
use mathlib.Core.Path.{sym, ◌∙◌}
use native.Mathlib.Omega.{arith}
use Rattle.format.specs.At.{found_at}
use Rattle.bits.specs.Read.{Place, Room}
use Rattle.bits.proofs.Answers.{value_fits}
use Rattle.format.proofs.Passed.{carried}
use Rattle.bit_reader.proofs.Reading.{enough_room}
use Rattle.position_v3.proofs.Headers.{header_there, header_empty, header_short}
use Rattle.position_v3.proofs.read_header.Goals as goal
use Rattle.position_v3.proofs.read_header.Goals.{In_ok-enough-2}

-- the header's bits, behind its two tests
room : (c : In_ok-enough-2) → Room c.args.s.now 0 64
room c =
    let p : Place c.args.s.now 0 = record { short = c.requires; within = omega arith } in
    enough_room _ _ _ _ c.enough-2.ensures c.in_ok-enough-2.was p

pub returns-in_err-enough : goal.returns-in_err-enough
returns-in_err-enough c = carried c.from_residual.ensures
    ∙ header_empty c.args.s.now c.enough.ensures c.in_err-enough.was

pub returns-in_err-enough-2 : goal.returns-in_err-enough-2
returns-in_err-enough-2 c =
    carried c.from_residual-in_err-enough-2.ensures
    ∙ header_short c.args.s.now c.enough.ensures c.in_ok-enough.was c.enough-2.ensures c.in_err-enough-2.was

pub to-requires : goal.to-requires
to-requires c = let r = room (goal.at.to-requires c).In_ok-enough-2 in
    record { short = r.short; within = omega arith }

pub stamp_at-stamp-requires : goal.stamp_at-stamp-requires
stamp_at-stamp-requires c = let r = room (goal.at.stamp_at-stamp-requires c).In_ok-enough-2 in
    rw (c.to.ensures.0, c.to.ensures.1) (record { short = r.short; fits = omega arith })

pub overflow_cast-result : goal.overflow_cast-result
overflow_cast-result c = search value_fits

pub overflow_cast-result-2 : goal.overflow_cast-result-2
overflow_cast-result-2 c = search value_fits

pub returns : goal.returns
returns c =
    let r = room (goal.at.returns c).In_ok-enough-2 in
    let said = rw (c.to.ensures.0, c.to.ensures.1) at c.stamp_at-stamp.ensures in
    (λ i.
    let stamp = said i in
    found_at
    (record {
      oem_version_major = c.value.ensures i;
      oem_version_minor = c.value-2.ensures i;
      creation_date_year = stamp.year;
      creation_date_day = stamp.day;
      creation_date_day_fraction = stamp.fraction;
      creation_date_reserved_zero_future_use = stamp.reserved;
    }) 64)
    ∙ sym (header_there c.args.s.now r.fits)
