-- `read_lists`: the three lists one after the other.
-- Assumes nothing.
use Prim.Native.Nat.{ℕ, ◌*◌}
use borrow.Author.Rules.{rules}
use Rattle.format.specs.Syntax.{Syntax, need, end}
use Rattle.format.specs.Tables.{times, system, new, obsolescent}
use Rattle.format.specs.declared.Fault.TheVariants.{NewSystemsCut, ObsolescentSystemsCut}
use Rattle.runs.specs.Lines.{run, sign_of, width_of}
use Rattle.read_runs.proofs.CameLaws.{stops, starts, then, need_any}
use Rattle.runs.proofs.Names as names
use Rattle.read_tables.proofs.read_lists.Goals as goal

abbrev news : ℕ → Syntax
news n = need NewSystemsCut (n * 80) (times n (system "new_delivery_system_id" "time_of_application") obsolescent)

abbrev olds : ℕ → Syntax
olds n = need ObsolescentSystemsCut (n * 80) (times n (system "obsolescent_delivery_system_id" "time_of_obsolescence") end)

pub returns-in_err-ids : goal.returns-in_err-ids
unfolding run sign_of width_of
returns-in_err-ids c = λ way. stops (search rules) (starts (need_any _ _ _ _ _ _) (c.in_err-ids.ensures way names.delivery new))

pub returns-in_err-news : goal.returns-in_err-news
unfolding run sign_of width_of
returns-in_err-news c =
    λ way. then (starts (need_any _ _ _ _ _ _) (c.in_ok-ids.ensures way names.delivery new)).to
    (stops (search rules) (c.in_err-news.ensures.laid way names.new_count news))

pub returns-in_err-new : goal.returns-in_err-new
unfolding run sign_of width_of
returns-in_err-new c =
    λ way. then (starts (need_any _ _ _ _ _ _) (c.in_ok-ids.ensures way names.delivery new)).to
    (then (c.in_ok-news.ensures.laid way names.new_count news).to
    (stops (search rules) (starts (need_any _ _ _ _ _ _) (c.in_err-new.ensures way names.new_system obsolescent))))

pub returns-in_err-olds : goal.returns-in_err-olds
unfolding run sign_of width_of
returns-in_err-olds c =
    λ way. then (starts (need_any _ _ _ _ _ _) (c.in_ok-ids.ensures way names.delivery new)).to
    (then (c.in_ok-news.ensures.laid way names.new_count news).to
    (then (starts (need_any _ _ _ _ _ _) (c.in_ok-new.ensures way names.new_system obsolescent)).to
    (stops (search rules) (c.in_err-olds.ensures.laid way names.old_count olds))))

pub returns : goal.returns
unfolding run sign_of width_of
returns c =
    λ way. then (starts (need_any _ _ _ _ _ _) (c.in_ok-ids.ensures way names.delivery new)).to
    (then (c.in_ok-news.ensures.laid way names.new_count news).to
    (then (starts (need_any _ _ _ _ _ _) (c.in_ok-new.ensures way names.new_system obsolescent)).to
    (then (c.in_ok-olds.ensures.laid way names.old_count olds).to
    (starts (need_any _ _ _ _ _ _) (c.read_counted-3.ensures way names.old_system end)))))
