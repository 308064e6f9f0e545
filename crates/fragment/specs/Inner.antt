-- What the steps of reading a fragment give, each over the rest of the table's lines.
-- Assumes nothing: these are definitions.
use Rattle.std.specs.Prelude.{ℕ, ◌+◌, Bool, true, false, List, Some, None, Result, Err}
use Rattle.format.specs.Digits.{value_at, twos}
use Rattle.format.specs.Syntax.{Field}
use Rattle.format.specs.Tables.{delivery, centre, u}
use Rattle.format.specs.ByName.{the}
use Rattle.format.specs.At.{read, found_at}
use Rattle.format.specs.declared.Refusal.{Refusal}
use Rattle.format.specs.declared.Found.{Found}
use Rattle.parts.specs.Parts.{part_by}
use Rattle.fragment.specs.Fragment.{centre_by}
use Rattle.fragment.specs.declared.CellCentre.{CellCentre}
use Rattle.fragment.specs.declared.CellFragment.{CellFragment}
use Rattle.fragment.specs.declared.Front.{Front}
use Rattle.fragment.specs.declared.Lists.{Lists}

-- the lists whose fields start at the bit place p
unfoldable pub lists_of : ℕ → List Field → Lists
lists_of p ts = record {
  ids = part_by "delivery_system_count" 32 p ts;
  new = part_by "new_delivery_system_count" 80 p ts;
  obsolescent = part_by "obsolescent_delivery_system_count" 80 p ts;
  reserved_new = the "reserved_zero_future_use_new" ts;
  reserved_obsolescent = the "reserved_zero_future_use_obsolescent" ts;
}

unfoldable pub lists_at : List ℕ → ℕ → Result (Found Lists) Refusal
lists_at b p = read b 0 delivery p (λ ts q. found_at (lists_of p ts) q) Err

-- a fragment of what stands before its lists, and the lists
abbrev pub around : Front → Lists → CellFragment
around f l = record {
  cell_fragment_id = f.id;
  first_occurrence = f.first;
  last_occurrence = f.last;
  centre = f.centre;
  delivery_system_ids = l.ids;
  new_delivery_systems = l.new;
  obsolescent_delivery_systems = l.obsolescent;
  reserved_zero_future_use_4 = f.reserved;
  reserved_zero_future_use_new = l.reserved_new;
  reserved_zero_future_use_obsolescent = l.reserved_obsolescent;
}

-- from the lists on
unfoldable pub around_at : List ℕ → Front → ℕ → Result (Found CellFragment) Refusal
around_at b f p = read b 0 delivery p (λ ts q. found_at (around f (lists_of p ts)) q) Err

-- what stands before the lists of a first occurrence, which has a centre, and of any other, with its reserved bits r
abbrev pub with_front : ℕ → Bool → CellCentre → Front
with_front id last k = record { id = id; first = true; last = last; centre = Some k; reserved = 0 }

abbrev pub without_front : ℕ → Bool → ℕ → Front
without_front id last r = record { id = id; first = false; last = last; centre = None; reserved = r }

-- from the centre on, and from the reserved bits that stand in its place
unfoldable pub with_at : List ℕ → ℕ → Bool → ℕ → Result (Found CellFragment) Refusal
with_at b id last p = read b 0 centre p (λ ts q. found_at (around (with_front id last (centre_by ts)) (lists_of p ts)) q) Err

unfoldable pub without_at : List ℕ → ℕ → Bool → ℕ → Result (Found CellFragment) Refusal
without_at b id last p =
    read b 0 (u "reserved_zero_future_use_4" 4 delivery) p
    (λ ts q. found_at (around (without_front id last (the "reserved_zero_future_use_4" ts)) (lists_of p ts)) q) Err

-- the centre that the bits at a place spell
abbrev pub centre_of : List ℕ → ℕ → CellCentre
centre_of b p = record {
  centre_latitude = twos 18 (value_at b (p + 4) 18);
  centre_longitude = twos 19 (value_at b (p + 27) 19);
  max_distance = value_at b (p + 46) 24;
  reserved_zero_future_use_4 = value_at b p 4;
  reserved_zero_future_use_5 = value_at b (p + 22) 5;
  reserved_zero_future_use_6 = value_at b (p + 70) 6;
}
