-- The ids of a whole body: by its layout, and as a caller gets them.
-- Assumes nothing.
use mathlib.Core.Path.{◌≡◌, refl, sym, ap, ◌∙◌}
use mathlib.Core.List.{List, [], ◌++◌}
use Prim.Native.Nat.{ℕ, ◌*◌, ◌-◌, ◌≤◌}
use native.Mathlib.Nat.{zero-add}
use native.Mathlib.Omega.{arith}
use lib.Dec.{leb}
use lib.ListN.{length, drop}
use borrow.Author.Tests.{le-leb}
use Rattle.std.specs.Prelude.{Result, Ok, Err}
use Rattle.format.specs.Digits.{bits_of, splice}
use Rattle.format.specs.Refusals.{refuse}
use Rattle.format.specs.Syntax.{Field, Parse, got, refused, and_then}
use Rattle.format.specs.Body.{read_body}
use Rattle.format.specs.Whole.{Layout, sole, many, opaque, layout, Table, one, list, as_it_is, entries_of, entries, read_as, body_read_as, body_read, body_starts}
use Rattle.format.specs.Calls.{answer, Fitted, left}
use Rattle.format.specs.At.{end_of, seek}
use Rattle.format.specs.Added.{entry_ids, first_of_each}
use Rattle.format.specs.declared.Refusal.{Refusal}
use Rattle.format.specs.declared.Output.{Output}
use Rattle.arrayvec.specs.ArrayVec.{ArrayVec}
use Rattle.format.proofs.ParseLaws.{cond_got, then_got}
use Rattle.format.proofs.ReadLaws.{rest_at}
use Rattle.format.proofs.CallLaws.{answer_done, answer_refused}
use Rattle.format.proofs.AgreeLaws.{Agree, counted, refuses, starts_agree}
use Rattle.format.specs.Lists.{IsList, list_id, entry_syntax, least_bits, head_syntax}
use Rattle.entries.specs.Entries.{walked}
use Rattle.format.specs.declared.tables.ListTable.{ListTable}
use Rattle.entries.specs.declared.Walk.{Walk}
use Rattle.format.proofs.NamedLaws.{layout_list}
use Rattle.entries.proofs.Bodies.{Headed, headed}
use Rattle.entry_ids.specs.Ids.{ids_of, ids_answer, ids_left}
use Rattle.entry_ids.specs.Steps.{gather, list_entries, Gathered}

module _ (id : ℕ) (b : List ℕ) where
  abbrev n : ℕ
  n = 8 * length b

  -- ---- what a walk over the entries' places says of the reading

  -- it is refused as the reading is
  refused_alike : {g : Refusal} (i : ℕ) → Err g ≡ seek b i walked Err (body_starts id b)
      → body_read id b ≡ refused g.fault g.need g.have
  unfolding seek
  refused_alike {g} i z = go (body_read id b) (body_starts id b) (starts_agree id b) z
    where
      go : (p : Parse Table) (q : Parse (List ℕ)) → Agree p q → Err g ≡ seek b i walked Err q
          → p ≡ refused g.fault g.need g.have
      go (got t r) (got ps s) (counted e) z = let o : ◌≡◌ {A = ℕ} 0 1 = cc in absurd (omega arith)
      go (refused u v w) (refused u' v' w') refuses z = let y : g ≡ refuse u v w = cc in rw y
      go (got t r) (refused u' v' w') x4 z = elim x4 [ ]
      go (refused u v w) (got ps s) x4 z = elim x4 [ ]

  pub gathered_no : {g : Refusal} (i : ℕ) → Err g ≡ seek b i walked Err (body_starts id b)
      → Gathered (ids_of id b) (Err g)
  unfolding ids_of
  gathered_no i z = record { is = rw (refused_alike i z) }

  -- it is accepted as the reading is
  accepted_alike : {w : Walk} (i : ℕ) → Ok w ≡ seek b i walked Err (body_starts id b)
      → (t : Table) × (r : List ℕ) × (body_read id b ≡ got t r)
  unfolding seek
  accepted_alike {w} i z = go (body_read id b) (body_starts id b) (starts_agree id b) z
    where
      go : (x : Parse Table) (q : Parse (List ℕ)) → Agree x q → Ok w ≡ seek b i walked Err q
          → (t : Table) × (r : List ℕ) × (x ≡ got t r)
      go (got t r) (got ps s) (counted e) z = (t, r, refl)
      go (refused u v w) (refused u' v' w') refuses z = let o : ◌≡◌ {A = ℕ} 0 1 = cc in absurd (omega arith)
      go (got t r) (refused u' v' w') x5 z = elim x5 [ ]
      go (refused u v w) (got ps s) x5 z = elim x5 [ ]

  -- ---- a body that is no list

  no_entries : {t : Table} {r : List ℕ} → (IsList (layout id) → ⊥) → body_read id b ≡ got t r → entries_of t ≡ []
  unfolding body_read_as read_as entries_of
  no_entries {t} {r} h e = go (layout id) h (cond_got (leb (length b) 4096) _ _ _ _ e).1
    where
      go : (y : Layout) → (IsList y → ⊥) → read_as y b ≡ got t r → entries_of t ≡ []
      go (sole s) h e =
          let o = then_got (read_body n 0 s (bits_of b)) (λ ts rest. got (one ts) []) e in
          let same : got (one o.0) [] ≡ got t r = o.3 in
          let z : one o.0 ≡ t = cc in
          ap entries_of (sym z)
      go (many x m s) h e = absurd (h tt)
      go opaque h e = let z : as_it_is b ≡ t = cc in ap entries_of (sym z)

  pub gathered_none : {w : Walk} {v : ArrayVec ℕ} (i : ℕ) → (IsList (layout id) → ⊥)
      → Ok w ≡ seek b i walked Err (body_starts id b) → v.items ≡ []
      → Gathered (ids_of id b) (Ok v)
  unfolding ids_of entry_ids first_of_each
  gathered_none i h z e =
      let a = accepted_alike i z in
      record { is = rw (a.2, no_entries h a.2, e) }

-- ---- a list

module _ (table : ListTable) (b : List ℕ) where
  abbrev id : ℕ
  id = list_id table

  abbrev listed : List Field → ℕ → List ℕ → Parse Table
  listed hs turns bs =
      and_then (entries (8 * length b) (least_bits id) (entry_syntax id) turns bs) (λ es over. got (list hs es) [])

  gather_listed : (hs : List Field) (p : Parse (List (List Field)))
      → and_then (and_then p (λ es over. got (list hs es) [])) (λ t rest. got (first_of_each (entry_ids id t)) [])
      ≡ gather id [] p
  unfolding gather entry_ids entries_of
  gather_listed hs (got es rest) = refl
  gather_listed hs (refused x y z) = refl

  -- its reading where its head ends
  listed_from : (q : ℕ) (h : Headed id b q)
      → read_as (layout id) b ≡ listed h.hs (8 * length b - q) (drop q (bits_of b))
  unfolding read_as
  listed_from q h = ap (λ (y : Layout). read_as y b) (layout_list table) ∙ rw (h.reads, rest_at b q)

  pub gathered_list : {r : Result (ArrayVec ℕ) Refusal} (q : ℕ) → length b ≤ 4096 → end_of b (head_syntax id) 0 ≡ Ok q
      → Gathered (gather id [] (list_entries table b q)) r
      → Gathered (ids_of id b) r
  unfolding ids_of body_read_as
  gathered_list q h e g =
      let o = headed b table q e in
      rw (le-leb (length b) 4096 h, listed_from q o, gather_listed o.hs) g

-- ---- what a caller gets, of the ids that were gathered

module _ {g : Result (ArrayVec ℕ) Refusal} (id : ℕ) (b : List ℕ) (h : Gathered (ids_of id b) g) where
  -- refused: the buffer is as it was
  refused_of : {f : Refusal} → g ≡ Err f → ids_of id b ≡ refused f.fault f.need f.have
  refused_of m = rw m at h.is

  pub answer_no : {f : Refusal} (room : ℕ) → g ≡ Err f → Err f ≡ ids_answer id b room
  unfolding ids_answer answer
  answer_no room m = rw (refused_of m)

  pub left_no : {f : Refusal} (out : List ℕ) → g ≡ Err f → out ≡ ids_left id b out
  unfolding ids_left left
  left_no out m = rw (refused_of m)

  -- gathered: held to the buffer's length
  got_of : {v : ArrayVec ℕ} → g ≡ Ok v → ids_of id b ≡ got v.items []
  got_of m = rw m at h.is

  pub answer_yes : {v : ArrayVec ℕ} {r : Result Output Refusal} {size room : ℕ} → g ≡ Ok v → size ≡ length v.items
      → Fitted id size room r
      → r ≡ ids_answer id b room
  unfolding ids_answer
  answer_yes {v} m e fit = rw (got_of m) (fit.is v.items [] e)

  pub left_short : {v : ArrayVec ℕ} {f : Refusal} (out : List ℕ) → g ≡ Ok v → Err f ≡ ids_answer id b (length out)
      → out ≡ ids_left id b out
  unfolding ids_answer ids_left
  left_short out m e = sym (answer_refused id out (ids_of id b) (sym e))

  pub room_for : {v : ArrayVec ℕ} {o : Output} {size : ℕ} (out : List ℕ) → g ≡ Ok v → size ≡ length v.items
      → Ok o ≡ ids_answer id b (length out)
      → size ≤ length out
  unfolding ids_answer
  room_for {v} out m s e =
      let d = answer_done id (length out) (ids_of id b) (sym e) in
      let same : got v.items [] ≡ got d.0 d.1 = sym (got_of m) ∙ d.2 in
      let z : v.items ≡ d.0 = cc in
      omega (arith, s, ap length z, d.3, d.4)

  -- copied to the buffer's start
  pub left_yes : {v : ArrayVec ℕ} {size : ℕ} {start : List ℕ} (out : List ℕ) → g ≡ Ok v → size ≡ length v.items
      → size ≤ length out → start ≡ v.items
      → start ++ drop size out ≡ ids_left id b out
  unfolding ids_left left splice
  left_yes {v} {size} {start} out m s room e =
      rw (got_of m, e, s, le-leb (length v.items) (length out) (rw s at room), zero-add (length v.items)) refl
