-- What a `?` hands on is the refusal that its call met.
-- Assumes nothing.
use mathlib.Core.Path.{◌≡◌, ap}
use Rattle.std.specs.Prelude.{Result, Ok, Err}
use Rattle.std.specs.Result.{IsErr, IsErrAnd}

pub carried : {A E : Type 0} {r : Result A E} {f : E} → IsErr r × IsErrAnd r (λ e. e ≡ f) → r ≡ Err f
carried {r = Ok x} h = absurd h.1
carried {r = Err e} h = ap Err h.1
