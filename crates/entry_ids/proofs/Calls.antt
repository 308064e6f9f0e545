-- The ids of a body's entries, of what the call returns and leaves: document 01's roll in the order of S-10.
-- Assumes nothing.
use Prim.Native.Nat.{ℕ, ◌*◌, ◌/◌, ◌≤◌}
use mathlib.Core.Path.{◌≡◌, sym, ap, ◌∙◌}
use mathlib.Core.Logic.{◌↔◌}
use mathlib.Core.List.{List, [], ◌∷◌, ◌++◌, map}
use native.Mathlib.Omega.{arith}
use lib.ListN.{length, length-append, length-map}
use borrow.Author.Tests.{le-leb}
use Rattle.format.specs.Syntax.{Syntax, Field, got}
use Rattle.format.specs.declared.Edition.TheVariants.{Second}
use Rattle.format.specs.Body.{kept}
use Rattle.format.specs.Whole.{Layout, Table, entries_of, body_read, Accepted, laids, body_of, kept_of}
use Rattle.format.specs.Calls.{answer, number_of}
use Rattle.format.specs.ByName.{the}
use Rattle.format.specs.Added.{id_name, entry_ids, first_of_each}
use Rattle.format.proofs.DigitLaws.{length_bytes}
use Rattle.format.proofs.ParseLaws.{then_got}
use Rattle.format.proofs.Good
use Rattle.format.proofs.EntryLaws.{AllGood, length_keeps}
use Rattle.format.proofs.TableLaws.{FineLayout, fine_layout, GoodTable, good_one, good_list, good_raw}
use Rattle.format.proofs.Demand.{body_all, accepted_good}
use Rattle.format.proofs.CallLaws.{accepts_result, result_given}
use Rattle.format.proofs.IdLaws.{each_once, first_shorter, first_order}
use Rattle.entry_ids.specs.Ids.{ids_of, ids_answer, ids_left, Listed}
use Rattle.entry_ids.proofs.Walks.{Wordy, wordy}

-- ---- the calls

ids_table : (id : ℕ) (b xs rest : List ℕ) → ids_of id b ≡ got xs rest
    → (t : Table) × (body_read id b ≡ got t []) × (xs ≡ first_of_each (entry_ids id t))
unfolding ids_of
ids_table id b xs rest e =
    let o = then_got (body_read id b) (λ t r. got (first_of_each (entry_ids id t)) []) e in
    let q : got (first_of_each (entry_ids id o.0)) [] ≡ got xs rest = o.3 in
    (o.0, rw (body_all id b o.2) at o.2, cc)

-- it accepts exactly if the body's reading meets no refusal and there is room for as many as there are different ids
pub ids_exactly : (id : ℕ) (b : List ℕ) (room : ℕ)
    → (number_of (ids_answer id b room) ≡ 0)
    ↔ ((t : Table) × (body_read id b ≡ got t []) × (length (first_of_each (entry_ids id t)) ≤ room))
unfolding ids_answer ids_of answer number_of
ids_exactly id b room = (there, back)
  where
    there : number_of (answer id room (ids_of id b)) ≡ 0
        → (t : Table) × (body_read id b ≡ got t []) × (length (first_of_each (entry_ids id t)) ≤ room)
    there e =
        let o = accepts_result id room (ids_of id b) e in
        let q = ids_table id b o.0 o.1 o.2 in
        (q.0, q.1, rw q.2 at o.3)

    back : (t : Table) × (body_read id b ≡ got t []) × (length (first_of_each (entry_ids id t)) ≤ room)
        → number_of (answer id room (ids_of id b)) ≡ 0
    back r = rw (r.1, le-leb (length (first_of_each (entry_ids id r.0))) room r.2)

-- what it leaves then: each different id of the entries once and nothing else, in the order of first entries, and
-- behind them the old values
pub ids_listed : (id : ℕ) (b out : List ℕ) (t : Table) → body_read id b ≡ got t []
    → length (first_of_each (entry_ids id t)) ≤ length out
    → Listed (entry_ids id t) out (ids_answer id b (length out)) (ids_left id b out)
unfolding ids_answer ids_left ids_of
ids_listed id b out t e h =
    let xs : List ℕ = first_of_each (entry_ids id t) in
    let g = result_given id out xs [] (ids_of id b) (rw e) h in
    record {
      accepts = g.accepts;
      size = g.size ∙ ap length (sym g.result);
      distinct = rw g.result (each_once (entry_ids id t));
      ordered = rw g.result (first_order (entry_ids id t));
      behind = rw g.size g.behind;
    }

-- ---- a buffer that suffices

entries_few : (s : Syntax) (m : ℕ) (es : List (List Field)) → Good.Least m s → 32 ≤ m → AllGood s es
    → 32 * length es ≤ length (laids Second es)
entries_few s m [] l h g = omega arith
entries_few s m (ts ∷ es) l h g = omega (arith, length_keeps ts es, Good.least m g.0 l, entries_few s m es l h g.1)

table_few : {y : Layout} {t : Table} → FineLayout y → Wordy y → GoodTable y t
    → 4 * length (entries_of t) ≤ length (kept_of t)
unfolding entries_of body_of
table_few x h (good_one g) = omega arith
table_few x h (good_list {s} {m} {hs} {es} g gs) =
    let keeps : List ℕ = laids Second es in
    let p : List ℕ = kept hs ++ keeps in
    omega (arith, length_bytes (length p / 8) p, length-append (kept hs) keeps, entries_few s m es x.2 h gs)
table_few x h (good_raw g) = omega arith

-- there are at most a quarter as many ids as the body has bytes, and at most 1,024: so many are always enough
pub ids_few : {id : ℕ} {b : List ℕ} {t : Table} → Accepted id b t
    → (4 * length (first_of_each (entry_ids id t)) ≤ length b) × (length (first_of_each (entry_ids id t)) ≤ 1024)
unfolding entry_ids
ids_few {id} {b} {t} p =
    let g = accepted_good (fine_layout id) p in
    let f = table_few (fine_layout id) (wordy id) g.0 in
    let s = first_shorter (map (the (id_name id)) (entries_of t)) in
    let l = length-map (entries_of t) (the (id_name id)) in
    (omega (arith, f, s, l, g.1), omega (arith, f, s, l, g.1))

pub ids_suffice : {id : ℕ} {b : List ℕ} {t : Table} (room : ℕ) → Accepted id b t → 1024 ≤ room
    → number_of (ids_answer id b room) ≡ 0
ids_suffice {id} {b} {t} room p h = (ids_exactly id b room).1 (t, p.reads, omega (arith, (ids_few p).1))
