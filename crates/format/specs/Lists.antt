-- The tables whose bodies are lists of entries: their ids, and what a layout says of the entries.
-- Assumes nothing: these are definitions.
use Rattle.std.specs.Prelude.{ℕ, ◌≡◌, Option, Some, None}
use Rattle.format.specs.Syntax.{Syntax, end}
use Rattle.format.specs.Whole.{Layout, sole, many, opaque, layout}
use Rattle.format.specs.declared.tables.ListTable.{ListTable}
use Rattle.format.specs.declared.tables.ListTable.TheVariants.{PositionV2, CellFragment, BeamhoppingTimePlan, PositionV3}

-- a body that is a list of entries
abbrev pub IsList : Layout → Type 0
IsList (sole s) = ⊥
IsList (many h m s) = Unit {0}
IsList opaque = ⊥

-- the table id of a list
abbrev pub list_id : ListTable → ℕ
list_id PositionV2 = 0
list_id CellFragment = 1
list_id BeamhoppingTimePlan = 3
list_id PositionV3 = 4

-- what a table id says: the list that has it, or that a body under it is no list
abbrev pub NamedIn : ℕ → Option ListTable → Type 0
NamedIn id (Some t) = id ≡ list_id t
NamedIn id None = IsList (layout id) → ⊥

pub record Named (id : ℕ) (r : Option ListTable) : Type 0 where
  pub is : NamedIn id r

abbrev pub syntax_in : Layout → Syntax
syntax_in (sole s) = s
syntax_in (many h m s) = s
syntax_in opaque = end

abbrev pub least_in : Layout → ℕ
least_in (sole s) = 0
least_in (many h m s) = m
least_in opaque = 0

abbrev pub head_in : Layout → Syntax
head_in (sole s) = end
head_in (many h m s) = h
head_in opaque = end

-- an entry, the bits that must remain for it, and what stands before the first
abbrev pub entry_syntax : ℕ → Syntax
entry_syntax id = syntax_in (layout id)

abbrev pub least_bits : ℕ → ℕ
least_bits id = least_in (layout id)

abbrev pub head_syntax : ℕ → Syntax
head_syntax id = head_in (layout id)
