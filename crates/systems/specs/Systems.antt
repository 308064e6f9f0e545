-- A list of systems read alone; and an element of a fragment's list at an index, read by the table's own lines, its
-- values by name.
-- Assumes nothing: these are definitions.
use Rattle.std.specs.Prelude.{ℕ, ◌+◌, ◌*◌, Bool, cond, ◌&&◌, List, leb, ltb, length, Option, Some, None, Result, Err}
use Rattle.format.specs.Syntax.{Syntax, Field, need, end}
use Rattle.format.specs.Tables.{bits, u, times, system}
use Rattle.format.specs.ByName.{the}
use Rattle.format.specs.At.{read, found_at}
use Rattle.format.specs.declared.Fault.{Fault}
use Rattle.format.specs.declared.Refusal.{Refusal}
use Rattle.format.specs.declared.Found.{Found}
use Rattle.parts.specs.Parts.{part_by}
use Rattle.parts.specs.declared.Part.{Part}
use Rattle.clocks.specs.Clocks.{clock_by}
use Rattle.systems.specs.declared.NewDeliverySystem.{NewDeliverySystem}
use Rattle.systems.specs.declared.ObsolescentDeliverySystem.{ObsolescentDeliverySystem}
use Rattle.systems.specs.declared.System.{System}

-- A count, room for so many systems or the refusal a, and then the systems, in order, each refused by its clock if at
-- all; under which names makes no difference.
unfoldable pub systems_at : List ℕ → Fault → ℕ → Result (Found Part) Refusal
systems_at b a p =
    read b 0 (bits "count" 10 (λ n. need a (n * 80) (times n (system "system_id" "time") end))) p
    (λ ts q. found_at (part_by "count" 80 p ts) q) Err

-- the body is no longer than a body may be, the list has an element at the index, and the element's bytes are all in
-- the body
unfoldable pub within : ℕ → ℕ → ℕ → ℕ → ℕ → Bool
within len start count size index = leb len 4096 && ltb index count && leb (start + size * index + size) len

-- the bit place of the element at an index of a list of elements of size bytes; none where there is none
unfoldable pub place_of : ℕ → Part → ℕ → ℕ → Option ℕ
place_of len part size index =
    cond (within len part.start part.count size index) (Some (8 * (part.start + size * index))) None

-- the element at an index of a list of elements of size bytes, each with the lines s; none where there is none, or
-- where its lines refuse it
unfoldable pub element_at : {A : Type 0} → ℕ → Syntax → (List Field → A) → A → List ℕ → Part → ℕ → A
element_at {A} size s found none b part index =
    let element : A = read b 0 s (8 * (part.start + size * index)) (λ ts q. found ts) (λ f. none) in
    cond (within (length b) part.start part.count size index) element none

unfoldable pub new_of : List Field → NewDeliverySystem
new_of ts = record {
  new_delivery_system_id = the "new_delivery_system_id" ts;
  time_of_application_base = the "time_of_application_base" ts;
  time_of_application_ext = the "time_of_application_ext" ts;
  reserved_zero_future_use = the "time_of_application_reserved_zero_future_use" ts;
}

unfoldable pub obsolescent_of : List Field → ObsolescentDeliverySystem
obsolescent_of ts = record {
  obsolescent_delivery_system_id = the "obsolescent_delivery_system_id" ts;
  time_of_obsolescence_base = the "time_of_obsolescence_base" ts;
  time_of_obsolescence_ext = the "time_of_obsolescence_ext" ts;
  reserved_zero_future_use = the "time_of_obsolescence_reserved_zero_future_use" ts;
}

-- a system under whatever names: its id and its clock
abbrev pub system_of : List Field → System
system_of ts = record { id = the "system_id" ts; time = clock_by "time" ts }

abbrev pub system_at : List ℕ → Part → ℕ → Option System
system_at b part index = element_at 10 (system "system_id" "time" end) (λ ts. Some (system_of ts)) None b part index

-- the three lists: elements of 4, 10 and 10 bytes
abbrev pub id_at : List ℕ → Part → ℕ → Option ℕ
id_at b part index = element_at 4 (u "delivery_system_id" 32 end) (λ ts. Some (the "delivery_system_id" ts)) None b part index

abbrev pub new_at : List ℕ → Part → ℕ → Option NewDeliverySystem
new_at b part index =
    element_at 10 (system "new_delivery_system_id" "time_of_application" end) (λ ts. Some (new_of ts)) None b part index

abbrev pub obsolescent_at : List ℕ → Part → ℕ → Option ObsolescentDeliverySystem
obsolescent_at b part index =
    element_at 10 (system "obsolescent_delivery_system_id" "time_of_obsolescence" end) (λ ts. Some (obsolescent_of ts)) None b part index
