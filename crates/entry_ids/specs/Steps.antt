-- What the parts of the call for the ids do.
-- Assumes nothing: these are definitions.
use Rattle.std.specs.Prelude.{ℕ, zero, suc, ◌*◌, ◌-◌, ◌≡◌, Bool, false, cond, ◌||◌, List, [], ◌∷◌, ◌++◌, length, drop, map}
use Rattle.std.specs.Prelude.{eqb, Result, Ok, Err}
use Rattle.format.specs.Digits.{bits_of}
use Rattle.format.specs.Syntax.{Field, Parse, got, refused, and_then}
use Rattle.format.specs.Whole.{entries}
use Rattle.format.specs.ByName.{the}
use Rattle.format.specs.Added.{id_name, first_of_each}
use Rattle.format.specs.declared.Refusal.{Refusal}
use Rattle.format.specs.Lists.{list_id, entry_syntax, least_bits}
use Rattle.format.specs.declared.tables.ListTable.{ListTable}
use Rattle.arrayvec.specs.ArrayVec.{ArrayVec}

-- the bits of an entry's id
abbrev pub id_bits : ℕ → ℕ
id_bits zero = 24
id_bits (suc zero) = 32
id_bits (suc (suc zero)) = 0
id_bits (suc (suc (suc zero))) = 32
id_bits (suc (suc (suc (suc zero)))) = 24
id_bits (suc (suc (suc (suc (suc n))))) = 0

unfoldable pub is_in : ℕ → List ℕ → Bool
is_in x [] = false
is_in x (y ∷ ys) = eqb x y || is_in x ys

-- one more behind a list, unless it is there already
unfoldable pub join : List ℕ → ℕ → List ℕ
join l x = cond (is_in x l) l (l ++ x ∷ [])

-- the ids of entries that were read, behind those of the entries before them
unfoldable pub gather : ℕ → List ℕ → Parse (List (List Field)) → Parse (List ℕ)
gather id before p = and_then p (λ es rest. got (first_of_each (before ++ map (the (id_name id)) es)) [])

-- the entries of a list from a place of the body on
abbrev pub list_entries : ListTable → List ℕ → ℕ → Parse (List (List Field))
list_entries t b p =
    let id : ℕ = list_id t in
    entries (8 * length b) (least_bits id) (entry_syntax id) (8 * length b - p) (drop p (bits_of b))

-- what was gathered is what a reading gives: its ids, or its refusal
abbrev pub GatheredIn : Parse (List ℕ) → Result (ArrayVec ℕ) Refusal → Type 0
GatheredIn p (Ok ids) = p ≡ got ids.items []
GatheredIn p (Err f) = p ≡ refused f.fault f.need f.have

pub record Gathered (p : Parse (List ℕ)) (r : Result (ArrayVec ℕ) Refusal) : Type 0 where
  pub is : GatheredIn p r

-- of a call that gathers into a list: the list, or the refusal
abbrev pub gathered : ArrayVec ℕ → Result (Unit {0}) Refusal → Result (ArrayVec ℕ) Refusal
gathered ids (Ok u) = Ok ids
gathered ids (Err f) = Err f
