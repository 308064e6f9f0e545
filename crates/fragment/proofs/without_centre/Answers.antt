-- `without_centre` meets its contract: by the case of the reserved bits.
-- Assumes nothing.
use Rattle.std.proofs.Common.{rules}
use Rattle.format.specs.ByName.{first_by}
use Rattle.format.specs.Syntax.{unsigned}
use Rattle.bits.proofs.Answers.{next_place, got_fits, got_all}
use Rattle.bits.proofs.Reading.{reading, got}
use Rattle.format.proofs.Passed.{carried}
use Rattle.fragment.specs.Inner.{without_at}
use Rattle.fragment.proofs.Steps.{without_lists}
use Rattle.fragment.proofs.without_centre.Goals as goal

pub returns-in_err-reserved : goal.returns-in_err-reserved
unfolding without_at
returns-in_err-reserved c = search (reading, carried, c.in_err-reserved.was, rules)

pub overflow_cast-front : goal.overflow_cast-front
overflow_cast-front c = search (got_fits, c.in_ok-reserved.was, rules)

pub to-requires : goal.to-requires
to-requires c = next_place _ 4 c.in_ok-reserved.was c.read_u.ensures c.args.from.place.short

pub returns : goal.returns
unfolding without_at first_by
returns c =
    let a = c.args in
    let m = c.in_ok-reserved.was in
    let e = c.read_u.ensures in
    got _ 0 a.from.at _ _ unsigned "reserved_zero_future_use_4" 4 _ e m
    (without_lists _ _ _ _ _ _ (got_all _ _ 4 e m).next
    (rw (c.to.ensures.0, c.to.ensures.1) at c.around_lists.ensures))
