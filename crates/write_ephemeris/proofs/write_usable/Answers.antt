-- `write_usable` meets its contract: a usable time, where its flag is 1.
-- Assumes nothing.
use mathlib.Core.List.{[]}
use mathlib.Core.Path.{refl}
use Rattle.runs.specs.Lines.{run, sign_of, width_of}
use Rattle.runs.proofs.FlagLaws.{flag_tested}
use Rattle.runs.proofs.Names as names
use Rattle.write_runs.proofs.WentLaws.{starts, stay, when_yes, when_no}
use Rattle.write_ephemeris.proofs.write_usable.Goals as goal

pub returns-then-flag : goal.returns-then-flag
unfolding run sign_of width_of
returns-then-flag c =
    λ e nm s. starts (when_yes _ _ _ _ _ _ (flag_tested c.args.flag c.if-flag.true))
    (c.write_needed.ensures.ran e (names.stamp nm []) (λ _. s))

pub returns : goal.returns
returns c =
    λ e nm s. starts (when_no _ _ _ _ _ _ (flag_tested c.args.flag c.if-flag.false)) (record { to = (refl, stay c.args.from.placed.within) })
