-- `take_clock` meets its contract: behind each read by the case of its answer.
-- Assumes nothing.
use Rattle.std.proofs.Common.{rules, refl}
use Rattle.format.specs.ByName.{first_by}
use Rattle.bits.proofs.Reading.{over}
use Rattle.bit_reader.proofs.Reading.{from_place, at_place, next_reader, took_field, cut_field, took_fits}
use Rattle.clocks.specs.Inner.{fields_at}
use Rattle.clocks.proofs.take_clock.Goals as goal

pub returns-in_err-base : goal.returns-in_err-base
unfolding fields_at
returns-in_err-base c =
    from_place _ _ _ _ _ c.new-reader.ensures c.skip.ensures
    (cut_field _ _ _ _ _ _ _ _ _ c.in_err-base.was c.read_u.ensures.answer (at_place c.new-reader.ensures c.skip.ensures c.args.from.place) (search rules))

pub read_u-requires-2 : goal.read_u-requires-2
read_u-requires-2 c = search (at_place, next_reader, rules)

pub returns-in_err-reserved : goal.returns-in_err-reserved
unfolding fields_at
returns-in_err-reserved c =
    from_place _ _ _ _ _ c.new-reader.ensures c.skip.ensures
    (took_field _ _ _ _ _ _ _ _ _ c.read_u.ensures.place c.read_u.ensures.answer c.in_ok-base.was refl refl
    (cut_field _ _ _ _ _ _ _ _ _ c.in_err-reserved.was c.read_u-2.ensures.answer (search (at_place, next_reader, rules)) (search rules)))

pub read_u-requires-3 : goal.read_u-requires-3
read_u-requires-3 c = search (at_place, next_reader, rules)

pub returns-in_err-ext : goal.returns-in_err-ext
unfolding fields_at
returns-in_err-ext c =
    from_place _ _ _ _ _ c.new-reader.ensures c.skip.ensures
    (took_field _ _ _ _ _ _ _ _ _ c.read_u.ensures.place c.read_u.ensures.answer c.in_ok-base.was refl refl
    (took_field _ _ _ _ _ _ _ _ _ c.read_u-2.ensures.place c.read_u-2.ensures.answer c.in_ok-reserved.was refl refl
    (cut_field _ _ _ _ _ _ _ _ _ c.in_err-ext.was c.read_u-3.ensures.answer (search (at_place, next_reader, rules)) (search rules))))

pub overflow_cast-result : goal.overflow_cast-result
overflow_cast-result c = took_fits _ 6 c.read_u-2.ensures.answer c.read_u-2.ensures.place c.in_ok-reserved.was tt

pub overflow_cast-result-2 : goal.overflow_cast-result-2
overflow_cast-result-2 c = took_fits _ 9 c.read_u-3.ensures.answer c.read_u-3.ensures.place c.in_ok-ext.was tt

pub returns : goal.returns
unfolding fields_at first_by
returns c =
    from_place _ _ _ _ _ c.new-reader.ensures c.skip.ensures
    (took_field _ _ _ _ _ _ _ _ _ c.read_u.ensures.place c.read_u.ensures.answer c.in_ok-base.was refl refl
    (took_field _ _ _ _ _ _ _ _ _ c.read_u-2.ensures.place c.read_u-2.ensures.answer c.in_ok-reserved.was refl refl
    (took_field _ _ _ _ _ _ _ _ _ c.read_u-3.ensures.place c.read_u-3.ensures.answer c.in_ok-ext.was refl refl
    (over _ _ _ _ _ (search (at_place, next_reader, rules)) refl))))
