-- The answer to a buffer's length, by the result's length alone.
-- Assumes nothing.
use Rattle.std.proofs.Common.{◌≡◌, ℕ, List, length, ap, Result, Ok, Err}
use Rattle.format.specs.Refusals.{refuse}
use Rattle.format.specs.Syntax.{Parse, got, refused}
use Rattle.format.specs.Calls.{answer, Fitted}
use Rattle.format.specs.declared.Refusal.{Refusal}
use Rattle.format.specs.declared.Output.{Output}
use Rattle.ledger_writer.specs.Written.{size_in}
use Rattle.ledger_reader.specs.Measured.{measured}

-- a size, for the writers: the refusal in it, or what the length gives
pub size_no : {f : Refusal} (id room : ℕ) (p : Parse (List ℕ)) → Err f ≡ size_in p → Err f ≡ answer id room p
unfolding size_in answer
size_no id room (got xs rest) e = absurd cc
size_no {f} id room (refused x y w) e = let g : f ≡ refuse x y w = cc in ap Err g

pub size_yes : {n : ℕ} {r : Result Output Refusal} (id room : ℕ) (p : Parse (List ℕ)) → Ok n ≡ size_in p
    → Fitted id n room r → r ≡ answer id room p
unfolding size_in
size_yes id room (got xs rest) e fit = fit.is xs rest cc
size_yes id room (refused x y w) e fit = absurd cc

-- a measure, for the reader, and for the plain and the kept body
pub measure_no : {f : Refusal} (id room : ℕ) (p : Parse (List ℕ)) → Err f ≡ measured id p → Err f ≡ answer id room p
unfolding answer
measure_no id room (got xs rest) e = absurd cc
measure_no {f} id room (refused x y w) e = let g : f ≡ refuse x y w = cc in ap Err g

pub measure_yes : {o : Output} {r : Result Output Refusal} (id room : ℕ) (p : Parse (List ℕ)) → Ok o ≡ measured id p
    → Fitted o.table_id o.length room r → r ≡ answer id room p
measure_yes {o} id room (got xs rest) e fit =
    let j : o.table_id ≡ id = cc in
    let k : o.length ≡ length xs = cc in
    rw j at (fit.is xs rest k)
measure_yes id room (refused x y w) e fit = absurd cc
