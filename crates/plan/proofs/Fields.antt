-- The steps of a proof at a mode, behind the fields in front of it; and at a plan's fields, behind its head.
-- Assumes nothing.
use Prim.Native.Nat.{ℕ, ◌+◌, ◌-◌, ◌*◌, ◌^◌, ◌<◌}
use mathlib.Core.Path.{◌≡◌, refl, sym, ap, ◌∙◌}
use mathlib.Core.Bool.{false, cond}
use mathlib.Core.List.{List, [], ◌∷◌, ◌++◌}
use native.Mathlib.Omega.{arith}
use lib.Dec.{leb}
use lib.ListN.{length}
use lib.Text.{eqt}
use Rattle.std.specs.Prelude.{Result, Ok, Err}
use Rattle.format.specs.Refusals.{refuse}
use Rattle.format.specs.Syntax.{Name, unsigned, Field, num, filler}
use Rattle.format.specs.Tables.{mode, hopping, beamhopping}
use Rattle.format.specs.ByName.{name, bits_in, first_by, from}
use Rattle.format.specs.At.{found_at}
use Rattle.format.specs.declared.Refusal.{Refusal}
use Rattle.format.specs.declared.Found.{Found}
use Rattle.format.specs.declared.Fault.TheVariants.{PlanOverrun}
use Rattle.format.proofs.ReadLaws.{upto}
use Rattle.bits.specs.Read.{read_at, Place}
use Rattle.bits.proofs.Answers.{next_place, got_all, got_lt}
use Rattle.bits.proofs.Reading.{sub}
use Rattle.clocks.specs.Clocks.{clock_at}
use Rattle.clocks.specs.declared.Clock.{Clock}
use Rattle.clocks.proofs.Clocks.{put, told, clock_place}
use Rattle.plan_modes.specs.Modes.{mode_at, mode_by}
use Rattle.plan_modes.specs.declared.BeamhoppingMode.{BeamhoppingMode}
use Rattle.plan_modes.proofs.Reached.{Reached, start, number, clocked, planned}
use Rattle.plan.specs.Plan.{plan_at, plan_from, plan_of, plan_made, plan_closed, fields_at}
use Rattle.plan.specs.declared.BeamhoppingPlan.{BeamhoppingPlan}
use Rattle.plan.specs.declared.PlanHead.{PlanHead}

-- e: the plan's end; h: its head; p, q: where the fields behind the head start, and where the mode does; a, m, k1, k2:
-- the reserved bits, number and clocks before the mode
module _ (b : List ℕ) (e : ℕ) (h : PlanHead) (p q a m : ℕ) (k1 k2 : Clock) where
  abbrev pub found : List Field → ℕ → Result (Found BeamhoppingPlan) Refusal
  found ts n =
      found_at
      (plan_from h p
      (num unsigned "reserved_zero_future_use_mode" 6 a ∷ num unsigned "time_plan_mode" 2 m ∷ put "time_of_application"
      k1 (put "cycle_duration" k2 ts)))
      n

  -- what is known where these were read
  pub record Front : Type 0 where
    pub begins : q ≡ p + 6 + 2 + 33 + 6 + 9 + 33 + 6 + 9
    pub reached : Reached b e (fields_at b e h p) (mode m) q found Err

  -- what becomes of the mode's answer
  after : Result (Found BeamhoppingMode) Refusal → Result (Found BeamhoppingPlan) Refusal
  after (Ok x) = found_at (plan_made h a m k1 k2 x.value) x.next
  after (Err f) = Err f

  module _ {y : Result (Found BeamhoppingMode) Refusal} (t : Front) (z : y ≡ mode_at b e m q) where
    through : after y ≡ fields_at b e h p
    unfolding mode_at after plan_from mode_by first_by from
    through =
        t.reached.past _
        (sub b e (mode m) q found Err (λ ts n. found_at (mode_by q m ts) n) Err after
        (λ ts n. rw t.begins) (λ f. refl) z refl)

    -- a mode that was read, or refused
    pub got_mode : {x : Found BeamhoppingMode} {pl : BeamhoppingPlan} → y ≡ Ok x → pl ≡ plan_made h a m k1 k2 x.value
        → found_at pl x.next ≡ fields_at b e h p
    unfolding after
    got_mode {x} w v = ap (λ (t : BeamhoppingPlan). found_at t x.next) v ∙ ap after (sym w) ∙ through

    pub cut_mode : {f : Refusal} → y ≡ Err f → Err f ≡ fields_at b e h p
    unfolding after
    cut_mode w = ap after (sym w) ∙ through

pub front_of : {b : List ℕ} {r1 r2 : Result (Found ℕ) Refusal} {c1 c2 : Result (Found Clock) Refusal}
    {x1 x2 : Found ℕ} {k1 k2 : Found Clock}
    (e : ℕ) (h : PlanHead) (p : ℕ) → Place b p
    → r1 ≡ read_at b p 6 → r1 ≡ Ok x1 → r2 ≡ read_at b x1.next 2 → r2 ≡ Ok x2
    → c1 ≡ clock_at b x2.next → c1 ≡ Ok k1 → c2 ≡ clock_at b k1.next → c2 ≡ Ok k2
    → Front b e h p k2.next x1.value x2.value k1.value k2.value
unfolding fields_at
front_of {b} e h p l e1 m1 e2 m2 e3 m3 e4 m4 =
    let l2 : Place b _ = next_place _ 2 m2 e2 l.short in
    let l3 = clock_place _ m3 e3 l2 in
    record {
      begins = omega (arith, got_all _ p 6 e1 m1, got_all _ _ 2 e2 m2, told _ _ l2 e3 m3, told _ _ l3 e4 m4);
      reached = clocked "cycle_duration"
          (clocked "time_of_application" (number (number (start hopping p _ _ l) e1 m1) e2 m2) e3 m3) e4 m4;
    }

-- ---- the filler is none of a plan's other fields

first_append : {A : Type 0} (f : Field → A) (none : A) (nm : Name) (ts us : List Field)
    → first_by f none nm (ts ++ us) ≡ first_by f (first_by f none nm us) nm ts
unfolding first_by
first_append f none nm [] us = refl
first_append f none nm (t ∷ ts) us = ap (cond (eqt nm (name t)) (f t)) (first_append f none nm ts us)

from_filler : (nm : Name) (p : ℕ) (ts : List Field) (fs : List ℕ) → eqt nm "filler" ≡ false
    → from nm p (ts ++ (filler fs ∷ [])) ≡ from nm p ts
unfolding from
from_filler nm p [] fs e = rw e
from_filler nm p (t ∷ ts) fs e = ap (cond (eqt nm (name t)) p) (from_filler nm (p + bits_in t) ts fs e)

unfilled : (h : PlanHead) (p : ℕ) (ts : List Field) (fs : List ℕ)
    → plan_from h p (ts ++ (filler fs ∷ [])) ≡ plan_from h p ts
unfolding plan_from mode_by first_by
unfilled h p ts fs =
    simp (first_append, from_filler "slot_transmission_on" p ts fs refl, from_filler "reserved" p ts fs refl)

-- ---- behind the head

-- e: the plan's end; p, q: where the plan starts, and where the fields behind its head do; id, r, v: the head's numbers
module _ (b : List ℕ) (e p q id r v : ℕ) where
  abbrev pub ended : List Field → ℕ → Result (Found BeamhoppingPlan) Refusal
  ended =
      upto b "plan_length" v e
      (λ ts n. found_at (plan_of p (num unsigned "beamhopping_time_plan_id" 32 id ∷ num unsigned
      "reserved_zero_future_use_4" 4 r ∷ ts)) n) Err

  abbrev pub inside : Result (Found BeamhoppingPlan) Refusal
  inside = fields_at b e (record { id = id; reserved = r; plan_length = v }) q

  -- what is known where the head was read
  pub record Head : Type 0 where
    pub begins : q ≡ p + 32 + 4 + 12
    pub small : v < 2 ^ 12
    pub reached : Reached b e (plan_at b p) hopping q ended Err

  -- what becomes of the fields' answer
  finally : Result (Found BeamhoppingPlan) Refusal → Result (Found BeamhoppingPlan) Refusal
  finally (Ok x) = plan_closed x.value x.next e (8 * length b)
  finally (Err f) = Err f

  module _ {y : Result (Found BeamhoppingPlan) Refusal} (h : Head) (z : y ≡ inside) where
    through_all : finally y ≡ plan_at b p
    unfolding fields_at finally plan_closed plan_of plan_from mode_by first_by from
    through_all =
        h.reached.past _
        (sub b e hopping q ended Err (λ ts n. found_at
        (plan_from (record { id = id; reserved = r; plan_length = v }) q ts) n) Err finally
        (λ ts n. rw h.begins (ap (λ (pl : BeamhoppingPlan). cond (leb n e)
        (found_at pl (cond (leb e (8 * length b)) e (8 * length b))) (Err (refuse PlanOverrun (n - e) 0)))
        (sym (unfilled _ _ ts _)))) (λ f. refl) z refl)

    -- fields that were refused, or read
    pub cut_fields : {f : Refusal} → y ≡ Err f → Err f ≡ plan_at b p
    unfolding finally
    cut_fields w = ap finally (sym w) ∙ through_all

    pub got_fields : {x : Found BeamhoppingPlan} → y ≡ Ok x → plan_closed x.value x.next e (8 * length b) ≡ plan_at b p
    unfolding finally
    got_fields w = ap finally (sym w) ∙ through_all

pub head_of : {b : List ℕ} {r1 r2 r3 : Result (Found ℕ) Refusal} {x1 x2 x3 : Found ℕ} (p : ℕ) → Place b p
    → r1 ≡ read_at b p 32 → r1 ≡ Ok x1 → r2 ≡ read_at b x1.next 4 → r2 ≡ Ok x2 → r3 ≡ read_at b x2.next 12 → r3 ≡ Ok x3
    → Head b (x3.next + 8 * x3.value) p x3.next x1.value x2.value x3.value
unfolding plan_at beamhopping
head_of p l e1 m1 e2 m2 e3 m3 =
    record {
      begins = omega (arith, got_all _ p 32 e1 m1, got_all _ _ 4 e2 m2, got_all _ _ 12 e3 m3);
      small = got_lt _ _ 12 m3 e3;
      reached = planned (number (number (start beamhopping p _ _ l) e1 m1) e2 m2) e3 m3;
    }
