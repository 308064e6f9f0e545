-- A converted ledger has its first four bytes.
-- Assumes nothing.
use Prim.Native.Nat.{ℕ, ◌≤◌}
use mathlib.Core.Path.{◌≡◌}
use mathlib.Core.List.{List}
use lib.ListN.{length}
use Rattle.std.specs.Prelude.{Ok}
use Rattle.format.specs.Digits.{Below}
use Rattle.format.specs.declared.Edition.{Edition}
use Rattle.format.specs.declared.Output.{Output}
use Rattle.format.specs.Whole.{content_of, ledger_of, id_of}
use Rattle.format.specs.Calls.{Fitted}
use Rattle.format.specs.Convert.{converted}
use Rattle.format.proofs.ConvertLaws.{fields_converted, accepted_conversion}
use Rattle.ledger_reader.specs.Measured.{measured}
use Rattle.ledger_reader.proofs.Results as results

pub four : {m o : Output} (ed : Edition) (l out : List ℕ) → Below 256 l → Ok m ≡ measured (id_of l) (converted ed l)
    → Fitted m.table_id m.length (length out) (Ok o) → 4 ≤ o.length
unfolding ledger_of
four ed l out b e fit =
    let s = results.sized (id_of l) (converted ed l) e in
    let c = accepted_conversion ed l b s.is in
    results.four (id_of l) out (converted ed l) e fit ed (content_of ed c.table)
    (fields_converted ed l c.table c.reads c.same)
