-- `ephemeris_data_at` meets its contract, test by test.
-- Assumes nothing.
use Rattle.ephemeris.proofs.Indexed.{bytes_of, unlisted, afar, outside, inside}
use Rattle.ephemeris.proofs.ephemeris_data_at.Goals as goal

pub returns-then-part-index : goal.returns-then-part-index
returns-then-part-index c = let a = c.args in unlisted a.body.now a.part a.accel a.index c.then-part-index.either

pub returns-then-length-start : goal.returns-then-length-start
returns-then-length-start c =
    let a = c.args in
    afar a.body.now a.part a.accel a.index c.if-part-index.false c.if-length-gt4096.false c.then-length-start.either

pub returns-then-length-first : goal.returns-then-length-first
returns-then-length-first c =
    let a = c.args in
    let e = bytes_of a.accel c.entry_bits-size.ensures in
    outside a.body.now a.part a.accel a.index c.if-part-index.false c.if-length-gt4096.false
    (rw e at c.if-length-first.true)

pub returns : goal.returns
returns c =
    let a = c.args in
    inside a.body.now a.part a.accel a.index c.if-part-index.false c.if-length-gt4096.false
    (bytes_of a.accel c.entry_bits-size.ensures) c.if-length-first.false c.entry_at.ensures
