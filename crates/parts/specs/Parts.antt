-- A list inside an entry: its part by the name of its count, and a list read alone.
-- Assumes nothing: these are definitions.
use Rattle.std.specs.Prelude.{ℕ, ◌+◌, ◌*◌, ◌/◌, List, Result, Err}
use Rattle.format.specs.Syntax.{Name, Field, need, end}
use Rattle.format.specs.Tables.{bits}
use Rattle.format.specs.ByName.{the, behind}
use Rattle.format.specs.At.{read, found_at}
use Rattle.format.specs.declared.Fault.{Fault}
use Rattle.format.specs.declared.Refusal.{Refusal}
use Rattle.format.specs.declared.Found.{Found}
use Rattle.parts.specs.declared.Part.{Part}

-- v elements of w bits from the bit place q on
abbrev pub part_from : ℕ → ℕ → ℕ → Part
part_from w q v = record { start = q / 8; length = v * w / 8; count = v }

-- the list behind the count of a name; p: the place at which the fields start
abbrev pub part_by : Name → ℕ → ℕ → List Field → Part
part_by c w p ts = part_from w (behind c p ts) (the c ts)

-- a count alone, and room for what it counts, or the refusal a; the answer's place is the one behind the elements
unfoldable pub part_at : List ℕ → Fault → ℕ → ℕ → Result (Found Part) Refusal
part_at b a w p =
    read b 0 (bits "count" 10 (λ n. need a (n * w) end)) p (λ ts q. found_at (part_from w q (the "count" ts)) (q + the "count" ts * w)) Err
