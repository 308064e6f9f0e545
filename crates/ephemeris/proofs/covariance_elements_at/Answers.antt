-- `covariance_elements_at` meets its contract. The loop's invariant: the first i values are in, the others 0.
-- Assumes nothing.
use mathlib.Core.Path.{refl}
use native.Mathlib.Omega.{arith}
use Rattle.bits.proofs.Answers.{value_fits}
use Rattle.ephemeris.specs.Ephemeris.{words_at}
use Rattle.ephemeris.proofs.Words.{put_word}
use Rattle.ephemeris.proofs.covariance_elements_at.Goals as goal

pub loop-i-init : goal.loop-i-init
unfolding words_at
loop-i-init c = refl

pub overflow_cast-elements : goal.overflow_cast-elements
overflow_cast-elements c = search value_fits

pub loop-i-preserved : goal.loop-i-preserved
loop-i-preserved c =
    let l = c.loop-i in
    put_word c.args.from.body.now l.elements c.args.from.at l.i 21 c.value-word.result (omega arith)
    l.invariant c.value-word.ensures
