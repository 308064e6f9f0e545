-- The plans of a ledger gone through one by one: what is laid, and what is left.
-- Assumes nothing.
use Prim.Native.Nat.{ℕ, suc, ◌+◌, ◌-◌, ◌*◌, ◌≤◌, ◌<◌}
use mathlib.Core.Path.{◌≡◌, refl, sym, ap, ◌∙◌}
use mathlib.Core.Bool.{true, false}
use mathlib.Core.List.{List, [], ◌∷◌, ◌++◌, append_assoc, append-nil}
use native.Mathlib.Nat.{sub-zero}
use native.Mathlib.Omega.{arith}
use lib.Dec.{eqb}
use lib.ListN.{length, take, drop, length-append}
use Rattle.std.specs.Prelude.{Ok, Err}
use Rattle.format.specs.Digits.{digits, value}
use Rattle.format.specs.Refusals.{refuse}
use Rattle.format.specs.Syntax.{Field, Parse, got, refused, push}
use Rattle.format.specs.declared.Edition.{Edition}
use Rattle.format.specs.declared.Edition.TheVariants.{First, Second}
use Rattle.format.specs.declared.Refusal.{Refusal}
use Rattle.format.specs.declared.Fault.TheVariants.{PlanInexact}
use Rattle.format.specs.Tables.{beamhopping}
use Rattle.format.specs.Ledger.{read_ledger}
use Rattle.format.specs.Whole.{ledgers, counted}
use Rattle.format.specs.Convert.{exact, all_exact, lossless}
use Rattle.format.proofs.DigitLaws.{length_digits}
use Rattle.format.proofs.ParseLaws.{push_got, then_got}
use Rattle.ledger_converter.specs.declared.Plan.{Plan}
use Rattle.runs.specs.Appended.{AppendedAt}
use Rattle.ledger_converter.specs.Plans.{bytes_in, has_all, PlanThere, PartsOf, PlanAt}
use Rattle.ledger_converter.specs.Steps.{PlansThere, Plans}
use Rattle.runs.proofs.Appends.{nothing_yet, also, named}

-- the test of the entries from index i on
abbrev from_index : Edition → ℕ → List (List Field) → Parse (List ℕ) → Parse (List ℕ)
from_index First i es p = all_exact i es p
from_index Second i es p = p

-- so many entries are read from a place on, and the first of them
abbrev pub Left : Edition → List ℕ → ℕ → ℕ → List (List Field) → Type 0
Left from l c place es = counted from (length l) beamhopping c (drop place l) ≡ got es []

record Next (from : Edition) (l : List ℕ) (c place : ℕ) (es : List (List Field)) : Type 0 where
  ts : List Field
  later : List (List Field)
  rest : List ℕ
  is : es ≡ ts ∷ later
  reads : read_ledger from (eqb c 0) (length l) beamhopping (drop place l) ≡ got ts rest
  goes : counted from (length l) beamhopping c rest ≡ got later []

next : {from : Edition} {l : List ℕ} {place : ℕ} {es : List (List Field)} (c : ℕ) → Left from l (suc c) place es
    → Next from l c place es
unfolding counted
next {from} {l} {place} c e =
    let o = then_got (read_ledger from (eqb c 0) (length l) beamhopping (drop place l))
    (λ ts rest. push ts (counted from (length l) beamhopping c rest)) e in
    let p = push_got o.0 (counted from (length l) beamhopping c o.1) o.3 in
    record { ts = o.0; later = p.0; rest = o.1; is = p.2; reads = o.2; goes = p.1 }

none_left : {es : List (List Field)} (from : Edition) (l : List ℕ) (place : ℕ) → Left from l 0 place es → es ≡ []
unfolding counted
none_left from l place e = cc

-- the test of one more entry, by that of a plan that it has the parts of
test_passed : (ed : Edition) (i : ℕ) (p : Plan) (ts : List Field) (es : List (List Field))
    → exact ts ≡ has_all First p → has_all ed p ≡ true
    → (q : Parse (List ℕ)) → from_index ed i (ts ∷ es) q ≡ from_index ed (i + 1) es q
unfolding all_exact
test_passed First i p ts es e h q =
    let z : suc i ≡ i + 1 = omega arith in
    rw (e, h) (ap (λ (k : ℕ). all_exact k es q) z)
test_passed Second i p ts es e h q = refl

test_failed : (ed : Edition) (i : ℕ) (p : Plan) (ts : List Field) (es : List (List Field))
    → exact ts ≡ has_all First p → has_all ed p ≡ false
    → (q : Parse (List ℕ)) → from_index ed i (ts ∷ es) q ≡ refused PlanInexact i 0
unfolding all_exact
test_failed First i p ts es e h q = rw (e, h) refl
test_failed Second i p ts es e h q = absurd (true_false h)
  where
    true_false : true ≡ false → ⊥
    true_false e = absurd cc

-- a plan takes four bytes more than its parts at most
bytes_few : (ed : Edition) (p : Plan) → length (bytes_in ed p) ≤ length p.head.now + (length p.fields.bytes.now + length p.filler.now) + 4
bytes_few First p = omega (arith, length-append p.head.now p.fields.bytes.now)
bytes_few Second p =
    let c : List ℕ = digits 256 2 (length p.filler.now) in
    let d : List ℕ = digits 256 2 p.length in
    let f : List ℕ = p.fields.bytes.now in
    omega (
      arith,
      length-append p.head.now (d ++ (f ++ (c ++ p.filler.now))),
      length-append d (f ++ (c ++ p.filler.now)),
      length-append f (c ++ p.filler.now),
      length-append c p.filler.now,
      length_digits 256 2 p.length,
      length_digits 256 2 (length p.filler.now),
    )

one_reading : {p : Parse (List (List Field))} {es fs : List (List Field)} → p ≡ got es [] → p ≡ got fs [] → es ≡ fs
one_reading e f = inj (sym e ∙ f)
  where
    inj : {x y : List (List Field)} → got x [] ≡ got y [] → x ≡ y
    inj q = cc

nothing : (ed : Edition) (i : ℕ) (p : Parse (List ℕ)) → from_index ed i [] p ≡ p
unfolding all_exact
nothing First i p = refl
nothing Second i p = refl

-- i of count plans are laid from `start` on: es are all of them, `left` those that are not
pub record Walking (from ed : Edition) (l out₀ : List ℕ) (start count i place at : ℕ) (out : List ℕ) : Type 0 where
  pub es : List (List Field)
  pub left : List (List Field)
  pub laid : List ℕ
  pub all : Left from l count 6 es
  pub there : Left from l (count - i) place left
  pub tested : (p : Parse (List ℕ)) → lossless ed es p ≡ from_index ed i left p
  pub bytes : ledgers ed es ≡ laid ++ ledgers ed left
  pub appended : AppendedAt laid start out₀ out at
  pub small : at ≤ place + 4 * i
  pub within : place ≤ length l

begin : (ed : Edition) (es : List (List Field)) (p : Parse (List ℕ)) → lossless ed es p ≡ from_index ed 0 es p
begin First es p = refl
begin Second es p = refl

pub begins : {from ed : Edition} {l out : List ℕ} {count start : ℕ} → PlansThere from l
    → count ≡ value 256 (take 2 (drop 4 l)) → start ≤ 6
    → Walking from ed l out start count 0 6 start out
begins {from} {ed} {l} {count = count} w q h =
    record {
      es = w.es;
      left = w.es;
      laid = [];
      all = rw q w.reads;
      there = rw (sub-zero count, q) w.reads;
      tested = λ p. begin ed w.es p;
      bytes = refl;
      appended = nothing_yet;
      small = omega arith;
      within = w.count;
    }

module _ {from ed : Edition} {l out₀ out : List ℕ} {start count i place at : ℕ} (w : Walking from ed l out₀ start count i place at out) where
  step : i < count → Next from l (count - (i + 1)) place w.left
  step h = let e : count - i ≡ suc (count - (i + 1)) = omega arith in next (count - (i + 1)) (rw e at w.there)

  pub plan_there : i < count → length l ≤ 65537 → PlanThere from l place
  plan_there h s =
      let n = step h in
      record { last = eqb (count - (i + 1)) 0; ts = n.ts; rest = n.rest; reads = n.reads; within = w.within; short = s }

  pub never : {f : Refusal} {A : Type 0} → i < count → PlanAt from l place (Err f) → A
  never h a = let n = step h in absurd (a.to (eqb (count - (i + 1)) 0) n.ts n.rest n.reads)

  module _ {p : Plan} (h : i < count) (a : PlanAt from l place (Ok p)) where
    parts : PartsOf l place (step h).ts (step h).rest p
    parts = let n = step h in a.to (eqb (count - (i + 1)) 0) n.ts n.rest n.reads

    -- the plan's bytes are within the ledger
    pub few : length l ≤ 65537 → length p.head.now + (length p.fields.bytes.now + length p.filler.now) ≤ 65537
    few s = omega (arith, parts.size, parts.within)

    pub turn : {out' : List ℕ} {at' : ℕ} → has_all ed p ≡ true → AppendedAt (bytes_in ed p) at out out' at'
        → Walking from ed l out₀ start count (i + 1) p.next at' out'
    unfolding ledgers
    turn {out'} {at'} t x =
        let n = step h in
        let y = parts in
        record {
          es = w.es;
          left = n.later;
          laid = w.laid ++ bytes_in ed p;
          all = w.all;
          there = ap (counted from (length l) beamhopping (count - (i + 1))) (sym y.behind) ∙ n.goes;
          tested = λ q. w.tested q ∙ ap (λ (es : List (List Field)). from_index ed i es q) n.is
              ∙ test_passed ed i p n.ts n.later y.exact t q;
          bytes = w.bytes ∙ ap (λ (es : List (List Field)). w.laid ++ ledgers ed es) n.is
              ∙ ap (λ (b : List ℕ). w.laid ++ (b ++ ledgers ed n.later)) (y.bytes ed)
              ∙ sym (append_assoc w.laid (bytes_in ed p) (ledgers ed n.later));
          appended = also w.appended x;
          small = omega (arith, x.size, bytes_few ed p, y.size, w.small);
          within = y.within;
        }

    pub stop : {before after : List ℕ} → count ≡ value 256 (take 2 (drop 4 l)) → has_all ed p ≡ false
        → Plans from ed l before after (Err (refuse PlanInexact i 0))
    stop k t =
        record {
          to = λ es e.
              let z : w.es ≡ es = one_reading w.all (rw k e) in
              λ v. ap (λ (x : List (List Field)). lossless ed x v) (sym z) ∙ w.tested v
              ∙ ap (λ (x : List (List Field)). from_index ed i x v) (step h).is
              ∙ test_failed ed i p (step h).ts (step h).later parts.exact t v;
        }

  pub small_place : length l ≤ 65537 → i < count → count ≤ 65535 → at ≤ 600000
  small_place s h c = omega (arith, w.small, w.within)

  pub ends : {before : List ℕ} → count ≡ value 256 (take 2 (drop 4 l))
      → AppendedAt (take 2 (drop 4 l)) 4 before out₀ start → count ≤ i
      → Plans from ed l before out (Ok at)
  unfolding ledgers
  ends k a h =
      record {
        to = λ es e.
            let z : w.es ≡ es = one_reading w.all (rw k e) in
            let c : count - i ≡ 0 = omega arith in
            let n : w.left ≡ [] = none_left from l place (rw c at w.there) in
            let b : ledgers ed es ≡ w.laid = ap (ledgers ed) (sym z) ∙ w.bytes
            ∙ ap (λ (x : List (List Field)). w.laid ++ ledgers ed x) n ∙ append-nil w.laid in (
              λ v. ap (λ (x : List (List Field)). lossless ed x v) (sym z) ∙ w.tested v
                  ∙ ap (λ (x : List (List Field)). from_index ed i x v) n ∙ nothing ed i v,
              named (ap (λ (x : List ℕ). take 2 (drop 4 l) ++ x) (sym b)) (also a w.appended),
            );
      }
