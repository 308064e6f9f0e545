-- The places of a whole body's entries, by its layout.
-- Assumes nothing.
use Prim.Native.Nat.{ℕ, zero, suc, ◌*◌, ◌-◌, ◌%◌, ◌≤◌, ◌<◌}
use mathlib.Core.Path.{◌≡◌, refl, sym, ap, ◌∙◌}
use mathlib.Core.List.{List, [], ◌∷◌}
use mathlib.Core.Logic.{◌⊎◌, inl, inr}
use native.Mathlib.Omega.{arith}
use lib.ListN.{length, drop}
use borrow.Author.Tests.{le-leb, lt-leb}
use Rattle.std.specs.Prelude.{slice_get, Option, Some, None, Result, Ok, Err}
use Rattle.format.specs.Digits.{bits_of}
use Rattle.format.specs.Refusals.{refuse}
use Rattle.format.specs.Syntax.{Syntax, end, Field, Parse, got, refused, and_then}
use Rattle.format.specs.Tables.{position, fragment, association, beamhopping, header}
use Rattle.format.specs.Body.{read_body}
use Rattle.format.specs.Whole.{Layout, sole, many, opaque, layout, starts, starts_as, body_starts}
use Rattle.format.specs.At.{made, read, end_of, seek}
use Rattle.format.specs.declared.Refusal.{Refusal}
use Rattle.format.specs.declared.Fault.TheVariants.{BodyTooLong}
use Rattle.format.proofs.FineTables.{fine_header, least_header}
use Rattle.format.proofs.DigitLaws.{length_bits}
use Rattle.format.proofs.ReadLaws.{rest_at}
use Rattle.format.proofs.WalkLaws.{read_on, read_no}
use Rattle.format.specs.Lists.{IsList, list_id, entry_syntax, least_bits, head_in, head_syntax}
use Rattle.entries.specs.Entries.{list_starts, head_end}
use Rattle.format.specs.declared.tables.ListTable.{ListTable}
use Rattle.format.specs.declared.tables.ListTable.TheVariants.{PositionV2, CellFragment, BeamhoppingTimePlan, PositionV3}

-- ---- what stands before the entries

-- where the head ends, the entries start
pub record Headed (id : ℕ) (b : List ℕ) (q : ℕ) : Type 0 where
  pub within : q ≤ 8 * length b
  pub byte : q % 8 ≡ 0
  pub hs : List Field
  pub reads : read_body (8 * length b) 0 (head_syntax id) (bits_of b) ≡ got hs (drop q (bits_of b))
  pub starts : starts_as (layout id) b ≡ starts (8 * length b) (least_bits id) (entry_syntax id) (8 * length b - q) (drop q (bits_of b))

no_head : (b : List ℕ) (q : ℕ) → end_of b end 0 ≡ Ok q → q ≡ 0
unfolding end_of read read_body
no_head b q e =
    let z : 8 * length b - length (bits_of b) ≡ q = cc in
    omega (arith, length_bits b, z)

module _ (b : List ℕ) where
  abbrev n : ℕ
  n = 8 * length b

  headed_none : (id m : ℕ) (s : Syntax) (q : ℕ) → starts_as (layout id) b ≡ starts n m s (length (bits_of b)) (bits_of b) → least_bits id ≡ m → entry_syntax id ≡ s → head_syntax id ≡ end
      → end_of b end 0 ≡ Ok q → Headed id b q
  unfolding read_body
  headed_none id m s q h em es eh e =
      let z : q ≡ 0 = no_head b q e in
      let l : length (bits_of b) ≡ n - 0 = length_bits b ∙ omega arith in
      rw z (record { within = omega arith; byte = refl; hs = []; reads = rw eh; starts = h ∙ rw (l, em, es) })

  headed_some : (q : ℕ) → end_of b header 0 ≡ Ok q → Headed 4 b q
  unfolding starts_as
  headed_some q e =
      let t = read_on 64 header fine_header least_header (omega arith) b 0 q (omega arith) refl e in
      record { within = t.within; byte = t.byte; hs = t.ts; reads = t.reads; starts = rw (t.reads, rest_at b q) }

  pub headed : (t : ListTable) (q : ℕ) → end_of b (head_syntax (list_id t)) 0 ≡ Ok q → Headed (list_id t) b q
  unfolding starts_as read_body
  headed PositionV2 q e = headed_none 0 32 position q refl refl refl refl e
  headed CellFragment q e = headed_none 1 34 fragment q refl refl refl refl e
  headed BeamhoppingTimePlan q e = headed_none 3 48 beamhopping q refl refl refl refl e
  headed PositionV3 q e = headed_some q e

  head_refused : (f : Refusal) → end_of b header 0 ≡ Err f → starts_as (layout 4) b ≡ refused f.fault f.need f.have
  unfolding starts_as
  head_refused f e = rw (read_no b header 0 f e)

  -- no other table has a head to refuse
  pub unheaded : (t : ListTable) (f : Refusal) → end_of b (head_syntax (list_id t)) 0 ≡ Err f
      → starts_as (layout (list_id t)) b ≡ refused f.fault f.need f.have
  unfolding end_of read read_body
  unheaded PositionV2 f e = let o : ◌≡◌ {A = ℕ} 0 1 = cc in absurd (omega arith)
  unheaded CellFragment f e = let o : ◌≡◌ {A = ℕ} 0 1 = cc in absurd (omega arith)
  unheaded BeamhoppingTimePlan f e = let o : ◌≡◌ {A = ℕ} 0 1 = cc in absurd (omega arith)
  unheaded PositionV3 f e = head_refused f e

-- where a head was said to end, and where there is none
pub head_ends : (id : ℕ) (b : List ℕ) (q : ℕ) → end_of b (head_syntax id) 0 ≡ Ok q → head_end id b ≡ q
unfolding head_end end_of read
head_ends id b q e = go (read_body (8 * length b) 0 (head_syntax id) (bits_of b)) e
  where
    go : (x : Parse (List Field)) → made (8 * length b) (λ ts q. Ok q) Err x ≡ Ok q → made (8 * length b) (λ ts q. q) (λ f. 0) x ≡ q
    go (got ts rest) w = cc
    go (refused u v z) w = let o : ◌≡◌ {A = ℕ} 0 1 = cc in absurd (omega arith)

pub no_head_end : (id : ℕ) (b : List ℕ) → (IsList (layout id) → ⊥) → head_end id b ≡ 0
unfolding head_end read read_body
no_head_end id b h = go (layout id) h
  where
    go : (y : Layout) → (IsList y → ⊥) → read b 0 (head_in y) 0 (λ ts q. q) (λ f. 0) ≡ 0
    go (sole s) h = omega (arith, length_bits b)
    go (many x m s) h = absurd (h tt)
    go opaque h = omega (arith, length_bits b)

pub no_header : (b : List ℕ) (t : ListTable) → (t ≡ PositionV2) ⊎ ((t ≡ CellFragment) ⊎ (t ≡ BeamhoppingTimePlan))
    → Ok 0 ≡ end_of b (head_syntax (list_id t)) 0
unfolding end_of read read_body
no_header b t h = go h
  where
    z : 0 ≡ 8 * length b - length (bits_of b)
    z = omega (arith, length_bits b)

    go : (t ≡ PositionV2) ⊎ ((t ≡ CellFragment) ⊎ (t ≡ BeamhoppingTimePlan)) → Ok 0 ≡ end_of b (head_syntax (list_id t)) 0
    go (inl e) = rw e (ap Ok z)
    go (inr (inl e)) = rw e (ap Ok z)
    go (inr (inr e)) = rw e (ap Ok z)

-- ---- what is made of a body's places

-- where the one entry of a body that is no list starts, by the index that is asked for
abbrev pub sole_place : ℕ → Option ℕ
sole_place i = slice_get (0 ∷ []) i

pub sole_first : (i : ℕ) → i ≡ 0 → Some 0 ≡ sole_place i
sole_first i e = rw e refl

pub sole_none : (i : ℕ) → (i ≡ 0 → ⊥) → None ≡ sole_place i
sole_none zero n = absurd (n refl)
sole_none (suc i) n = refl

module _ {A : Type 0} (i : ℕ) (found : ℕ → Option ℕ → ℕ → A) (fail : Refusal → A) (b : List ℕ) where
  pub seek_over : (id : ℕ) → 4096 < length b → fail (refuse BodyTooLong (length b) 4096) ≡ seek b i found fail (body_starts id b)
  unfolding body_starts seek
  seek_over id h = rw (lt-leb (length b) 4096 h)

  under : (id : ℕ) → length b ≤ 4096 → body_starts id b ≡ starts_as (layout id) b
  unfolding body_starts
  under id h = rw (le-leb (length b) 4096 h)

  pub seek_list : {x : A} (t : ListTable) (q : ℕ) → length b ≤ 4096 → end_of b (head_syntax (list_id t)) 0 ≡ Ok q
      → x ≡ seek b i found fail (list_starts t b q)
      → x ≡ seek b i found fail (body_starts (list_id t) b)
  seek_list t q h e w = rw (under (list_id t) h, (headed b t q e).starts) w

  pub seek_unheaded : {f : Refusal} {r : Result ℕ Refusal} (t : ListTable) → length b ≤ 4096
      → r ≡ end_of b (head_syntax (list_id t)) 0 → r ≡ Err f
      → fail f ≡ seek b i found fail (body_starts (list_id t) b)
  unfolding seek
  seek_unheaded {f} t h e m = rw (under (list_id t) h, unheaded b t f (sym e ∙ m))

  -- id 2: read or refused; ids from 5 on: one entry, that ends with the body
  at_first : (j : ℕ) → found 1 (sole_place j) (8 * length b) ≡ found 1 (slice_get (0 ∷ []) j) (8 * length b - 0)
  at_first j = ap (found 1 (sole_place j)) (omega arith)

  pub seek_sole : (q : ℕ) → length b ≤ 4096 → end_of b association 0 ≡ Ok q → found 1 (sole_place i) (8 * length b) ≡ seek b i found fail (body_starts 2 b)
  unfolding seek starts_as end_of read
  seek_sole q h e = rw (under 2 h) (go (read_body (8 * length b) 0 association (bits_of b)) e)
    where
      go : (x : Parse (List Field)) → made (8 * length b) (λ ts q. Ok q) Err x ≡ Ok q → found 1 (sole_place i) (8 * length b) ≡ seek b i found fail (and_then x (λ ts rest. got (0 ∷ []) []))
      go (got ts rest) z = at_first i
      go (refused u v w) z = let o : ◌≡◌ {A = ℕ} 0 1 = cc in absurd (omega arith)

  pub seek_not : (f : Refusal) → length b ≤ 4096 → end_of b association 0 ≡ Err f → fail f ≡ seek b i found fail (body_starts 2 b)
  unfolding seek starts_as end_of read
  seek_not f h e = rw (under 2 h) (go (read_body (8 * length b) 0 association (bits_of b)) e)
    where
      go : (x : Parse (List Field)) → made (8 * length b) (λ ts q. Ok q) Err x ≡ Err f → fail f ≡ seek b i found fail (and_then x (λ ts rest. got (0 ∷ []) []))
      go (got ts rest) z = let o : ◌≡◌ {A = ℕ} 0 1 = cc in absurd (omega arith)
      go (refused u v w) z = let y : refuse u v w ≡ f = cc in ap fail (sym y)

  pub seek_raw : (id : ℕ) → length b ≤ 4096 → (IsList (layout id) → ⊥) → (id ≡ 2 → ⊥) → found 1 (sole_place i) (8 * length b) ≡ seek b i found fail (body_starts id b)
  unfolding seek starts_as
  seek_raw id h l n = rw (under id h) (go id l n)
    where
      go : (k : ℕ) → (IsList (layout k) → ⊥) → (k ≡ 2 → ⊥) → found 1 (sole_place i) (8 * length b) ≡ seek b i found fail (starts_as (layout k) b)
      go zero l n = absurd (l tt)
      go (suc zero) l n = absurd (l tt)
      go (suc (suc zero)) l n = absurd (n refl)
      go (suc (suc (suc zero))) l n = absurd (l tt)
      go (suc (suc (suc (suc zero)))) l n = absurd (l tt)
      go (suc (suc (suc (suc (suc k))))) l n = at_first i
