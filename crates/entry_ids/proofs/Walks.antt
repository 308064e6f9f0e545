-- Going from entry to entry of a list: what a turn gathers, and what the loop over them keeps.
-- Assumes nothing.
use mathlib.Core.Path.{◌≡◌, refl, sym, ap, ◌∙◌}
use mathlib.Core.List.{List, [], ◌∷◌, ◌++◌, append-nil, append_assoc, map}
use Prim.Native.Nat.{ℕ, zero, suc, ◌*◌, ◌-◌, ◌%◌, ◌≤◌, ◌<◌}
use native.Mathlib.Omega.{arith}
use lib.Dec.{leb}
use lib.ListN.{length, take, drop}
use Rattle.std.specs.Prelude.{Ok, Err}
use Rattle.format.specs.Digits.{bits_of, value, value_at}
use Rattle.format.specs.Syntax.{Name, Syntax, unsigned, field, Field, num, Parse, got, refused, push}
use Rattle.format.specs.Tables.{position, fragment, beamhopping, position3}
use Rattle.format.specs.Body.{read_body}
use Rattle.format.specs.Whole.{Layout, sole, many, opaque, layout, entries}
use Rattle.format.specs.ByName.{first_by, the}
use Rattle.format.specs.At.{end_of}
use Rattle.format.specs.Added.{id_name, first_of_each}
use Rattle.format.specs.declared.Refusal.{Refusal}
use Rattle.format.proofs.ParseLaws.{cond_got, push_got}
use Rattle.format.proofs.WalkLaws.{Met, read_on, read_no, turn_on as turns-on, turn_no as turns-no, turn_end as turns-end}
use Rattle.format.specs.Lists.{list_id, entry_syntax, least_bits}
use Rattle.format.specs.declared.tables.ListTable.{ListTable}
use Rattle.format.specs.declared.tables.ListTable.TheVariants.{PositionV2, CellFragment, BeamhoppingTimePlan, PositionV3}
use Rattle.format.proofs.NamedLaws.{fine_entry, least_entry, byte_entry}
use Rattle.entry_ids.specs.Steps.{id_bits, join, gather, Gathered}
use Rattle.entry_ids.proofs.Lists.{first_last, join_most}

-- ---- an entry's id

first_field : (nm : Name) (w : ℕ) (k : ℕ → Syntax) (n : ℕ) (bs : List ℕ) {ts : List Field} {rest : List ℕ}
    → read_body n 0 (field unsigned nm w k) bs ≡ got ts rest
    → (more : List Field) × (ts ≡ num unsigned nm w (value 2 (take w bs)) ∷ more)
unfolding read_body
first_field nm w k n bs e =
    let v : ℕ = value 2 (take w bs) in
    let more = (cond_got (leb w (length bs)) _ _ _ _ e).1 in
    let o = push_got (num unsigned nm w v) (read_body n 0 (k v) (drop w bs)) more in
    (o.0, o.2)

-- an entry starts with its id
id_at_lem : (t : ListTable) (b : List ℕ) (p n : ℕ) {ts : List Field} {rest : List ℕ}
    → read_body n 0 (entry_syntax (list_id t)) (drop p (bits_of b)) ≡ got ts rest
    → the (id_name (list_id t)) ts ≡ value_at b p (id_bits (list_id t))
unfolding position fragment beamhopping position3 first_by value_at
id_at_lem PositionV2 b p n e = rw (first_field _ _ _ _ _ e).1
id_at_lem CellFragment b p n e = rw (first_field _ _ _ _ _ e).1
id_at_lem BeamhoppingTimePlan b p n e = rw (first_field _ _ _ _ _ e).1
id_at_lem PositionV3 b p n e = rw (first_field _ _ _ _ _ e).1

-- four bytes remain where there is an entry
word_entry : (t : ListTable) → 32 ≤ least_bits (list_id t)
word_entry PositionV2 = omega arith
word_entry CellFragment = omega arith
word_entry BeamhoppingTimePlan = omega arith
word_entry PositionV3 = omega arith

-- the same by the layout, list or not
abbrev pub Wordy : Layout → Type 0
Wordy (sole s) = Unit {0}
Wordy (many h m s) = 32 ≤ m
Wordy opaque = Unit {0}

pub wordy : (id : ℕ) → Wordy (layout id)
wordy zero = omega arith
wordy (suc zero) = omega arith
wordy (suc (suc zero)) = tt
wordy (suc (suc (suc zero))) = omega arith
wordy (suc (suc (suc (suc zero)))) = omega arith
wordy (suc (suc (suc (suc (suc i))))) = tt

-- ---- one turn

gather_push : (id : ℕ) (l : List ℕ) (ts : List Field) (p : Parse (List (List Field)))
    → gather id l (push ts p) ≡ gather id (l ++ the (id_name id) ts ∷ []) p
unfolding gather
gather_push id l ts (got es rest) = rw (append_assoc l (the (id_name id) ts ∷ []) (map (the (id_name id)) es))
gather_push id l ts (refused x y z) = refl

module _ (table : ListTable) (b : List ℕ) where
  abbrev id : ℕ
  id = list_id table

  abbrev n : ℕ
  n = 8 * length b

  -- an entry at a place that ends at another
  abbrev Entry : ℕ → ℕ → Type 0
  Entry p q = Met (least_bits id) (entry_syntax id) (fine_entry table) (least_entry table) (byte_entry table) b p q

  entry : (p q : ℕ) → p ≤ n → p % 8 ≡ 0 → end_of b (entry_syntax id) p ≡ Ok q → Entry p q
  entry p q h a e =
      read_on (least_bits id) (entry_syntax id) (fine_entry table) (least_entry table) (byte_entry table) b p q h a e

  -- the walk that the loop follows, from a place on, and the ids that it gives behind those of the entries before it
  abbrev pub ids_from : ℕ → ℕ → List ℕ → Parse (List ℕ)
  ids_from turns p l = gather id l (entries n (least_bits id) (entry_syntax id) turns (drop p (bits_of b)))

  turn_on : (turns p : ℕ) (l : List ℕ) {q : ℕ} → p ≤ n → least_bits id ≤ n - p → Entry p q
      → ids_from (suc turns) p l ≡ ids_from turns q (l ++ value_at b p (id_bits id) ∷ [])
  turn_on turns p l {q} h m x =
      rw (turns-on (λ p ts. ts) (least_bits id) (entry_syntax id) b turns p x.ts (drop q (bits_of b)) h m x.reads)
      (gather_push id l x.ts (entries n (least_bits id) (entry_syntax id) turns (drop q (bits_of b)))
      ∙ rw (id_at_lem table b p n x.reads))

  turn_no : (turns p : ℕ) (l : List ℕ) (x : Refusal) → least_bits id ≤ n - p → end_of b (entry_syntax id) p ≡ Err x
      → ids_from (suc turns) p l ≡ refused x.fault x.need x.have
  unfolding gather
  turn_no turns p l x m e =
      let r = read_no b (entry_syntax id) p x e in
      rw (turns-no (λ p ts. ts) (least_bits id) (entry_syntax id) b turns p x.fault x.need x.have m r)

  turn_end : (turns p : ℕ) (l : List ℕ) → n - p < least_bits id → ids_from turns p l ≡ got (first_of_each l) []
  unfolding gather
  turn_end turns p l h = rw (turns-end (λ p ts. ts) (least_bits id) (entry_syntax id) b turns p h, append-nil l)

  -- ---- the loop

  -- what it keeps at a place: of the ids passed each where it first stands is gathered; the others are those of the
  -- walk from here on
  pub record Kept (start at : ℕ) (kept : List ℕ) : Type 0 where
    pub within : at ≤ n
    pub byte : at % 8 ≡ 0
    pub few : 32 * length kept ≤ at
    pub turns : ℕ
    pub enough : n - at ≤ turns
    pub passed : List ℕ
    pub first : kept ≡ first_of_each passed
    pub whole : ids_from (n - start) start [] ≡ ids_from turns at passed

  pub kept_first : (start : ℕ) (kept : List ℕ) → start ≤ n → start % 8 ≡ 0 → kept ≡ [] → Kept start start kept
  unfolding first_of_each
  kept_first start kept h a m = rw m (record {
    within = h;
    byte = a;
    few = omega arith;
    turns = n - start;
    enough = omega arith;
    passed = [];
    first = refl;
    whole = refl;
  })

  module _ (start at : ℕ) (kept : List ℕ) (k : Kept start at kept) where
    -- there is a turn left
    one_left : least_bits id ≤ n - at → (t : ℕ) × (k.turns ≡ suc t)
    one_left m = go k.turns (omega (arith, k.enough, word_entry table))
      where
        go : (t : ℕ) → 0 < t → (u : ℕ) × (t ≡ suc u)
        go zero h = absurd (omega arith)
        go (suc u) h = (u, refl)

    pub kept_next : {v : ℕ} {kept' : List ℕ} (q : ℕ) → least_bits id ≤ n - at → end_of b (entry_syntax id) at ≡ Ok q
        → v ≡ value_at b at (id_bits id) → kept' ≡ join kept v
        → Kept start q kept'
    kept_next {v} {kept'} q m e w j =
        let o = one_left m in
        let t = entry at q k.within k.byte e in
        record {
          within = t.within;
          byte = t.byte;
          few = omega (arith, t.on, k.few, ap length j, join_most kept v, word_entry table);
          turns = o.0;
          enough = omega (arith, t.on, k.enough, o.1, word_entry table);
          passed = k.passed ++ v ∷ [];
          first = j ∙ ap (λ (l : List ℕ). join l v) k.first ∙ sym (first_last k.passed v);
          whole =
              k.whole ∙ ap (λ (u : ℕ). ids_from u at k.passed) o.1 ∙ turn_on o.0 at k.passed k.within m t
              ∙ ap (λ (u : ℕ). ids_from o.0 q (k.passed ++ u ∷ [])) (sym w);
        }

    -- the loop comes nearer to the end
    pub kept_less : (q : ℕ) → least_bits id ≤ n - at → end_of b (entry_syntax id) at ≡ Ok q → n - q < n - at
    kept_less q m e = let t = entry at q k.within k.byte e in omega (arith, t.on, t.within, word_entry table)

    -- what the loop hands back
    pub kept_over : n - at < least_bits id → Gathered (ids_from (n - start) start []) (Ok (record { items = kept }))
    kept_over m = record { is = k.whole ∙ turn_end k.turns at k.passed m ∙ ap (λ (l : List ℕ). got l []) (sym k.first) }

    pub kept_stop : (x : Refusal) → least_bits id ≤ n - at → end_of b (entry_syntax id) at ≡ Err x
        → Gathered (ids_from (n - start) start []) (Err x)
    kept_stop x m e =
        let o = one_left m in
        record { is = k.whole ∙ ap (λ (u : ℕ). ids_from u at k.passed) o.1 ∙ turn_no o.0 at k.passed x m e }
