-- The three lists of a fragment: how far reading them has come, and what the whole of them is.
-- Assumes nothing.
use Prim.Native.Nat.{ℕ, ◌+◌, ◌*◌, ◌/◌}
use mathlib.Core.Path.{◌≡◌, refl, sym, ap, ◌∙◌}
use mathlib.Core.List.{List, [], ◌∷◌}
use native.Mathlib.Omega.{arith}
use Rattle.std.specs.Prelude.{Result, Ok, Err}
use Rattle.format.specs.Syntax.{Name, unsigned, Syntax, end, field, Field, num}
use Rattle.format.specs.Tables.{times, system, delivery, new, obsolescent}
use Rattle.format.specs.ByName.{number_in, first_by, the, behind}
use Rattle.format.specs.At.{read, found_at}
use Rattle.format.specs.declared.Fault.{Fault}
use Rattle.format.specs.declared.Fault.TheVariants.{IdsCut, NewSystemsCut, ObsolescentSystemsCut}
use Rattle.format.specs.declared.Refusal.{Refusal}
use Rattle.format.specs.declared.Found.{Found}
use Rattle.format.proofs.GroupLaws.{Line, plainly, fields}
use Rattle.format.proofs.ListLaws.{many, Other, first_many, behind_many}
use Rattle.bits.specs.Read.{read_at, Place}
use Rattle.bits.proofs.Answers.{got_all, next_place}
use Rattle.bits.proofs.Reading.{got, cut, over}
use Rattle.parts.specs.Parts.{part_at}
use Rattle.parts.specs.declared.Part.{Part}
use Rattle.parts.proofs.Lists.{counted, Listed, listed, list_then, by_part}
use Rattle.systems.specs.Systems.{systems_at}
use Rattle.systems.proofs.Elements.{lines}
use Rattle.systems.proofs.Lists.{by_systems, listed_systems}
use Rattle.fragment.specs.Inner.{lists_of, lists_at}
use Rattle.fragment.specs.declared.Lists.{Lists}

-- an element of each list
abbrev ids : List Line
ids = plainly "delivery_system_id" 32 ∷ []

abbrev news : List Line
news = lines "new_delivery_system_id" "time_of_application"

abbrev olds : List Line
olds = lines "obsolescent_delivery_system_id" "time_of_obsolescence"

-- a list of ids and a list of systems, each with its count, in front of others
abbrev id_list : Syntax → Syntax
id_list s = counted "delivery_system_count" IdsCut 32 (λ n. times n (fields ids) s)

abbrev system_list : Name → Fault → Name → Name → Syntax → Syntax
system_list c a id time s = counted c a 80 (λ n. times n (system id time) s)

-- the fields of a list, and of the reserved bits before one, in front of others
abbrev puts : List ℕ → ℕ → Name → List Line → Part → List Field → List Field
puts b p c ls t ts = num unsigned c 10 t.count ∷ many b (p + 10) t.count ls ts

abbrev six : Name → ℕ → List Field → List Field
six nm v ts = num unsigned nm 6 v ∷ ts

-- all fields of the first list, of the second with its reserved bits, and of the third, in front of others
abbrev first : List ℕ → ℕ → Part → List Field → List Field
first b p t ts = puts b p "delivery_system_count" ids t ts

abbrev second : List ℕ → ℕ → ℕ → Part → List Field → List Field
second b p r t ts = six "reserved_zero_future_use_new" r (puts b p "new_delivery_system_count" news t ts)

abbrev third : List ℕ → ℕ → ℕ → Part → List Field → List Field
third b p r t ts = six "reserved_zero_future_use_obsolescent" r (puts b p "obsolescent_delivery_system_count" olds t ts)

module _ (b : List ℕ) (p : ℕ) where
  -- the lists of the fields that put holds in front of others
  abbrev found : (List Field → List Field) → List Field → ℕ → Result (Found Lists) Refusal
  found put ts n = found_at (lists_of p (put ts)) n

  -- reading has come to the place q: s is to be read there, and put holds the fields before it
  pub record Come (s : Syntax) (put : List Field → List Field) (q : ℕ) : Type 0 where
    pub place : Place b q
    pub step : (x : Result (Found Lists) Refusal) → x ≡ read b 0 s q (found put) Err → x ≡ lists_at b p

  -- a list at that place was read, or refused; l: the list, s: what follows it
  module _ {l : Syntax} {put : List Field → List Field} {q : ℕ} {r : Result (Found Part) Refusal} (c : Name) (ls : List Line) (s : Syntax) (h : Come l put q)
      (e : read b 0 l q (found put) Err ≡ list_then b 0 q c (found put) Err ls s r) where
    past_list : {w : ℕ} {t : Found Part} → Listed b w q t → r ≡ Ok t
        → Come s (λ ts. put (puts b q c ls t.value ts)) t.next
    unfolding list_then
    past_list o m =
        record {
          place = record { short = h.place.short; within = o.within };
          step = λ x g. h.step x (g ∙ ap (list_then b 0 q c (found put) Err ls s) (sym m) ∙ sym e);
        }

    list_cut : {x : Result (Found Lists) Refusal} {f : Refusal} → r ≡ Err f → x ≡ Err f → x ≡ lists_at b p
    unfolding list_then
    list_cut m w = h.step _ (w ∙ ap (list_then b 0 q c (found put) Err ls s) (sym m) ∙ sym e)

  -- of ids, and of systems
  module _ {s : Syntax} {put : List Field → List Field} {q : ℕ} {r : Result (Found Part) Refusal} (h : Come (id_list s) put q) (e : r ≡ part_at b IdsCut 32 q) where
    past_ids : {t : Found Part} → r ≡ Ok t → Come s (λ ts. put (puts b q "delivery_system_count" ids t.value ts)) t.next
    past_ids m =
        past_list "delivery_system_count" ids s h (by_part b 0 q "delivery_system_count" (found put) Err IdsCut ids s h.place e) (listed b IdsCut 32 q h.place e m) m

    pub ids_cut : {x : Result (Found Lists) Refusal} {f : Refusal} → r ≡ Err f → x ≡ Err f → x ≡ lists_at b p
    ids_cut = list_cut "delivery_system_count" ids s h (by_part b 0 q "delivery_system_count" (found put) Err IdsCut ids s h.place e)

  module _ {s : Syntax} {put : List Field → List Field} {q : ℕ} {a : Fault} {c : Name} {r : Result (Found Part) Refusal} (id time : Name) (h : Come (system_list c a id time s) put q)
      (e : r ≡ systems_at b a q) where
    past_systems : {t : Found Part} → r ≡ Ok t → Come s (λ ts. put (puts b q c (lines id time) t.value ts)) t.next
    past_systems m =
        past_list c (lines id time) s h (by_systems b 0 q c (found put) Err a id time s h.place e) (listed_systems b a q h.place e m) m

    pub systems_cut : {x : Result (Found Lists) Refusal} {f : Refusal} → r ≡ Err f → x ≡ Err f → x ≡ lists_at b p
    systems_cut = list_cut c (lines id time) s h (by_systems b 0 q c (found put) Err a id time s h.place e)

  module _ {put : List Field → List Field} {q : ℕ} (nm : Name) (w : ℕ) (k : ℕ → Syntax) (h : Come (field unsigned nm w k) put q)
      {r : Result (Found ℕ) Refusal} (e : r ≡ read_at b q w) where
    past_field : {y : Found ℕ} → r ≡ Ok y → Come (k y.value) (λ ts. put (num unsigned nm w y.value ∷ ts)) y.next
    past_field m =
        record {
          place = next_place q w m e h.place.short;
          step = λ x g. h.step x (got b 0 q (found put) Err unsigned nm w k e m g);
        }

    pub field_cut : {x : Result (Found Lists) Refusal} {f : Refusal} → r ≡ Err f → x ≡ Err f → x ≡ lists_at b p
    field_cut m y = h.step _ (cut b 0 q (found put) Err unsigned nm w k h.place e m y)

  pub start : Place b p → Come delivery (λ ts. ts) p
  unfolding lists_at
  start h = record { place = h; step = λ x g. g }

  -- behind the first list; then behind the reserved bits and the list that come next, twice
  module _ (x1 : Found Part) where
    pub record One : Type 0 where
      pub come : Come new (λ ts. first b p x1.value ts) x1.next
      pub list : Listed b 32 p x1

    module _ (y1 : Found ℕ) where
      pub record Two : Type 0 where
        pub before : One
        pub come : Come (system_list "new_delivery_system_count" NewSystemsCut "new_delivery_system_id" "time_of_application" obsolescent)
            (λ ts. first b p x1.value (six "reserved_zero_future_use_new" y1.value ts)) y1.next
        pub gap : y1.next ≡ x1.next + 6

      module _ (x2 : Found Part) where
        pub record Three : Type 0 where
          pub before : Two
          pub come : Come obsolescent (λ ts. first b p x1.value (second b y1.next y1.value x2.value ts)) x2.next
          pub list : Listed b 80 y1.next x2

        module _ (y2 : Found ℕ) where
          pub record Four : Type 0 where
            pub before : Three
            pub come : Come (system_list "obsolescent_delivery_system_count" ObsolescentSystemsCut "obsolescent_delivery_system_id" "time_of_obsolescence" end)
                (λ ts. first b p x1.value (second b y1.next y1.value x2.value (six "reserved_zero_future_use_obsolescent" y2.value ts))) y2.next
            pub gap : y2.next ≡ x2.next + 6

  -- each from the answers so far
  module _ (h : Place b p) {x1 : Found Part} {r1 : Result (Found Part) Refusal} (e1 : r1 ≡ part_at b IdsCut 32 p) (m1 : r1 ≡ Ok x1) where
    pub one : One x1
    one = record { come = past_ids (start h) e1 m1; list = listed b IdsCut 32 p h e1 m1 }

    module _ {y1 : Found ℕ} {u1 : Result (Found ℕ) Refusal} (e2 : u1 ≡ read_at b x1.next 6) (m2 : u1 ≡ Ok y1) where
      pub two : Two x1 y1
      two = record { before = one; come = past_field "reserved_zero_future_use_new" 6 _ one.come e2 m2; gap = (got_all b x1.next 6 e2 m2).next }

      module _ {x2 : Found Part} {r2 : Result (Found Part) Refusal} (e3 : r2 ≡ systems_at b NewSystemsCut y1.next) (m3 : r2 ≡ Ok x2) where
        pub three : Three x1 y1 x2
        three =
            record {
              before = two;
              come = past_systems "new_delivery_system_id" "time_of_application" two.come e3 m3;
              list = listed_systems b NewSystemsCut y1.next two.come.place e3 m3;
            }

        pub four : {y2 : Found ℕ} {u2 : Result (Found ℕ) Refusal} → u2 ≡ read_at b x2.next 6 → u2 ≡ Ok y2
            → Four x1 y1 x2 y2
        four e m = record { before = three; come = past_field "reserved_zero_future_use_obsolescent" 6 _ three.come e m; gap = (got_all b x2.next 6 e m).next }

-- ---- the lists that all these fields are

module _ (b : List ℕ) (p p2 p3 r1 r2 : ℕ) (x1 x2 x3 : Found Part) where
  abbrev later : List Field
  later = third b p3 r2 x3.value []

  abbrev middle : List Field
  middle = second b p2 r1 x2.value later

  abbrev all : List Field
  all = first b p x1.value middle

  made : Listed b 32 p x1 → p2 ≡ x1.next + 6 → Listed b 80 p2 x2 → p3 ≡ x2.next + 6 → Listed b 80 p3 x3
      → record { ids = x1.value; new = x2.value; obsolescent = x3.value; reserved_new = r1; reserved_obsolescent = r2 } ≡ lists_of p all
  unfolding lists_of first_by behind
  made l1 e2 l2 e3 l3 =
      let past1 : (nm : Name) → Other nm ids → the nm (many b (p + 10) x1.value.count ids middle) ≡ the nm middle =
      λ nm o. first_many number_in 0 nm b (p + 10) x1.value.count ids middle o in
      let past2 : (nm : Name) → Other nm news → the nm (many b (p2 + 10) x2.value.count news later) ≡ the nm later =
      λ nm o. first_many number_in 0 nm b (p2 + 10) x2.value.count news later o in
      let at1 : (nm : Name) → Other nm ids → behind nm (p + 10) (many b (p + 10) x1.value.count ids middle) ≡ behind nm (p + 10 + x1.value.count * 32) middle =
      λ nm o. behind_many nm b (p + 10) x1.value.count ids middle o in
      let at2 : (nm : Name) → Other nm news → behind nm (p2 + 10) (many b (p2 + 10) x2.value.count news later) ≡ behind nm (p2 + 10 + x2.value.count * 80) later =
      λ nm o. behind_many nm b (p2 + 10) x2.value.count news later o in
      let old : Other "obsolescent_delivery_system_count" news = (refl, (refl, (refl, (refl, tt)))) in
      let c2 : the "new_delivery_system_count" all ≡ x2.value.count = past1 "new_delivery_system_count" (refl, tt) in
      let c3 : the "obsolescent_delivery_system_count" all ≡ x3.value.count =
      past1 "obsolescent_delivery_system_count" (refl, tt) ∙ past2 "obsolescent_delivery_system_count" old in
      let v1 : the "reserved_zero_future_use_new" all ≡ r1 = past1 "reserved_zero_future_use_new" (refl, tt) in
      let v2 : the "reserved_zero_future_use_obsolescent" all ≡ r2 =
      past1 "reserved_zero_future_use_obsolescent" (refl, tt) ∙ past2 "reserved_zero_future_use_obsolescent" (refl, (refl, (refl, (refl, tt)))) in
      let z2 : p + 10 + x1.value.count * 32 + 6 + 10 ≡ p2 + 10 = omega (arith, l1.next, e2) in
      let z3 : p2 + 10 + x2.value.count * 80 + 6 + 10 ≡ p3 + 10 = omega (arith, l2.next, e3) in
      let s2 : behind "new_delivery_system_count" p all ≡ p2 + 10 = at1 "new_delivery_system_count" (refl, tt) ∙ z2 in
      let s3 : behind "obsolescent_delivery_system_count" p all ≡ p3 + 10 =
      at1 "obsolescent_delivery_system_count" (refl, tt)
      ∙ ap (λ (k : ℕ). behind "obsolescent_delivery_system_count" k (many b (p2 + 10) x2.value.count news later)) z2
      ∙ at2 "obsolescent_delivery_system_count" old ∙ z3 in
      λ i. record {
        ids = record { start = l1.start i; length = l1.size i; count = x1.value.count };
        new = record { start = (l2.start ∙ ap (λ (k : ℕ). k / 8) (sym s2)) i; length = (l2.size ∙ ap (λ (k : ℕ). k * 80 / 8) (sym c2)) i; count = sym c2 i };
        obsolescent = record { start = (l3.start ∙ ap (λ (k : ℕ). k / 8) (sym s3)) i; length = (l3.size ∙ ap (λ (k : ℕ). k * 80 / 8) (sym c3)) i; count = sym c3 i };
        reserved_new = sym v1 i;
        reserved_obsolescent = sym v2 i;
      }

-- all three lists were read
pub all_read : (b : List ℕ) (p : ℕ) {x1 x2 x3 : Found Part} {y1 y2 : Found ℕ} {r : Result (Found Part) Refusal}
    → Four b p x1 y1 x2 y2
    → r ≡ systems_at b ObsolescentSystemsCut y2.next → r ≡ Ok x3
    → found_at (record { ids = x1.value; new = x2.value; obsolescent = x3.value; reserved_new = y1.value; reserved_obsolescent = y2.value }) x3.next ≡ lists_at b p
all_read b p {x1} {x2} {x3} {y1} {y2} f e m =
    let done = past_systems b p "obsolescent_delivery_system_id" "time_of_obsolescence" f.come e m in
    let two = f.before.before in
    let l =
    made b p y1.next y2.next y1.value y2.value x1 x2 x3 two.before.list two.gap f.before.list f.gap (listed_systems b ObsolescentSystemsCut y2.next f.come.place e m) in
    done.step _ (over b 0 x3.next _ Err done.place (ap (λ (k : Lists). found_at k x3.next) l))
