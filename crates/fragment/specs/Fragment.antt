-- Table id 1: a cell fragment from its fields, each by its name.
-- Assumes nothing: these are definitions.
use Rattle.std.specs.Prelude.{ℕ, cond, List, eqb, Some, None, Result, Err}
use Rattle.format.specs.Syntax.{Field}
use Rattle.format.specs.Tables.{fragment}
use Rattle.format.specs.ByName.{the, the_int}
use Rattle.format.specs.At.{read, found_at}
use Rattle.format.specs.declared.Refusal.{Refusal}
use Rattle.format.specs.declared.Found.{Found}
use Rattle.parts.specs.Parts.{part_by}
use Rattle.fragment.specs.declared.CellCentre.{CellCentre}
use Rattle.fragment.specs.declared.CellFragment.{CellFragment}

-- the centre
abbrev pub centre_by : List Field → CellCentre
centre_by ts = record {
  centre_latitude = the_int "centre_latitude" ts;
  centre_longitude = the_int "centre_longitude" ts;
  max_distance = the "max_distance" ts;
  reserved_zero_future_use_4 = the "centre.reserved_zero_future_use_4" ts;
  reserved_zero_future_use_5 = the "centre.reserved_zero_future_use_5" ts;
  reserved_zero_future_use_6 = the "centre.reserved_zero_future_use_6" ts;
}

-- The fragment whose fields start at the bit place p. A first occurrence has a centre, any other four reserved bits.
unfoldable pub fragment_of : ℕ → List Field → CellFragment
fragment_of p ts = record {
  cell_fragment_id = the "cell_fragment_id" ts;
  first_occurrence = eqb (the "first_occurrence" ts) 1;
  last_occurrence = eqb (the "last_occurrence" ts) 1;
  centre = cond (eqb (the "first_occurrence" ts) 1) (Some (centre_by ts)) None;
  delivery_system_ids = part_by "delivery_system_count" 32 p ts;
  new_delivery_systems = part_by "new_delivery_system_count" 80 p ts;
  obsolescent_delivery_systems = part_by "obsolescent_delivery_system_count" 80 p ts;
  reserved_zero_future_use_4 = cond (eqb (the "first_occurrence" ts) 1) 0 (the "reserved_zero_future_use_4" ts);
  reserved_zero_future_use_new = the "reserved_zero_future_use_new" ts;
  reserved_zero_future_use_obsolescent = the "reserved_zero_future_use_obsolescent" ts;
}

-- the fragment at a place
unfoldable pub fragment_at : List ℕ → ℕ → Result (Found CellFragment) Refusal
fragment_at b p = read b 0 fragment p (λ ts q. found_at (fragment_of p ts) q) Err
