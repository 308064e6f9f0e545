-- The loop of `pass_run`: what is read is what a run with no buffer says, and the last number is still to be taken.
-- Assumes nothing.
use Prim.Native.Nat.{ℕ, ◌+◌, ◌-◌, ◌*◌, ◌^◌, ◌≤◌, ◌<◌}
use mathlib.Core.Path.{◌≡◌, refl, sym, ap, subst}
use mathlib.Core.List.{List, [], ◌∷◌}
use native.Mathlib.Omega.{arith}
use Rattle.std.proofs.Common.{Result, Err}
use lib.Dec.{T}
use lib.ListN.{length, drop, get_or}
use lib.Pow.{pow_pos}
use Rattle.format.specs.Digits.{value_at}
use Rattle.format.specs.Refusals.{refuse}
use Rattle.format.specs.Syntax.{Name, Syntax}
use Rattle.format.specs.declared.Fault.TheVariants.{FieldCut, ExtensionTooLarge}
use Rattle.bits.proofs.Values.{value_at_none, value_at_lt}
use Rattle.runs.specs.Lines.{line, run, width_of, size_of, ext_of, mark_ok, marks_ok, head_name}
use Rattle.runs.specs.declared.RunEnd.{RunEnd}
use Rattle.runs.specs.Ends.{ended_at}
use Rattle.format.specs.declared.Refusal.{Refusal}
use Rattle.runs.proofs.MarkLaws.{mark_facts, marks_at}
use Rattle.runs.proofs.Stores.{digits_short}
use Rattle.write_runs.specs.Placed.{Placed}
use Rattle.write_runs.specs.Went.{Around}
use Rattle.write_runs.specs.Ended.{Ended, Over}
use Rattle.write_runs.proofs.WentLaws.{line_done, line_no, line_damaged}
use Rattle.write_runs.proofs.Runs.{Next, Along, lines, lines_next, lines_end, Balance, balance_next, balance_end, begin, next, stop, ended}

-- i fields are passed, of which the last has so many bits
pub record Passed (body : List ℕ) (at : ℕ) (marks : List ℕ) (place here there width i : ℕ) : Type 0 where
  pub along : (nms : List Name) → Along (run nms 0 marks) (lines nms marks) body at place [] here there (value_at body (here - width) width) i []
  pub most : i ≤ length marks
  pub few : width ≤ 64
  pub inside : width ≤ here
  pub last : value_at body (here - width) width < 2 ^ width_of (get_or marks (i - 1) 0)
  pub balance : Balance marks at place here there i

module _ {body marks : List ℕ} {at place : ℕ} where
  pub pass_none : Placed body at place → Passed body at marks place at place 0 0
  pass_none p =
      let z : value_at body (at - 0) 0 ≡ 0 = value_at_none body (at - 0) in
      record {
        along = λ nms. subst (λ (v : ℕ). Along (run nms 0 marks) (lines nms marks) body at place [] at place v 0 []) (sym z) (begin p (λ k. refl));
        most = omega arith;
        few = omega arith;
        inside = omega arith;
        last = rw z (pow_pos _);
        balance = (refl, refl);
      }

  -- the places stay small, and so does a field
  pub pass_placed : {here there width i : ℕ} → Passed body at marks place here there width i → Placed body here there
  pass_placed st = (st.along []).placed

  -- the next mark is one that there is
  pub pass_mark : {here there width i : ℕ} → Passed body at marks place here there width i → i < length marks → T (marks_ok marks) → T (mark_ok (get_or marks i 0))
  pass_mark {i = i} st more ok = marks_at marks i ok more

  pub pass_few : {here there width i w : ℕ} → Passed body at marks place here there width i → i < length marks → T (marks_ok marks) → w ≡ width_of (get_or marks i 0) → w ≤ 64
  pass_few {i = i} st more ok ew = omega (arith, ew, (mark_facts (get_or marks i 0) (marks_at marks i ok more)).most)

  pub pass_eight : {here there width i z : ℕ} → Passed body at marks place here there width i → i < length marks → T (marks_ok marks) → z ≡ size_of (get_or marks i 0) → z ≤ 8
  pass_eight {i = i} st more ok ez = omega (arith, ez, (mark_facts (get_or marks i 0) (marks_at marks i ok more)).eight)

  module _ {here there width i w : ℕ} (st : Passed body at marks place here there width i) (more : i < length marks) (ew : w ≡ width_of (get_or marks i 0)) where
    -- one field more is there, or is not
    pub pass_one : {z : ℕ} → T (marks_ok marks) → z ≡ size_of (get_or marks i 0) → here + w ≤ 8 * length body → ext_of (get_or marks i 0) (value_at body here w) ≤ 299
        → Passed body at marks place (here + w) (there + z) w (i + 1)
    pass_one {z} ok ez fits fine =
        let c = get_or marks i 0 in
        let m = marks_at marks i ok more in
        let f = mark_facts c m in
        let v = value_at body here w in
        let back : here + w - w ≡ here = omega arith in
        let same : value_at body (here + w - w) w ≡ v = ap (λ (p : ℕ). value_at body p w) back in
        let one : i + 1 - 1 ≡ i = omega arith in
        record {
          along = λ nms. subst (λ (x : ℕ). Along (run nms 0 marks) (lines nms marks) body at place [] (here + w) (there + z) x (i + 1) []) (sym same)
              (next (line (head_name (drop i nms)) c) (st.along nms) (λ k. lines_next nms marks _ i k more)
              (λ e k. line_done (head_name (drop i nms)) c k m ew ez fits refl fine (sym (digits_short [] there z _ (omega (arith, f.one))))));
          most = omega arith;
          few = omega (arith, f.most);
          inside = omega arith;
          last = rw (same, one, ← ew) (value_at_lt body here w);
          balance = balance_next marks at place here there i more (omega (arith, ew), omega (arith, ez)) st.balance;
        }

    pub pass_stops : 8 * length body < here + w → (e : Around) (nms : List Name) (k : Next) → Ended body e (run nms 0 marks k) at place [] k [] (Err (refuse FieldCut (here + w) (8 * length body)))
    pass_stops h e nms k =
        let c = get_or marks i 0 in
        let nm = head_name (drop i nms) in
        let within = (st.along nms).placed.within in
        record { to = stop (line nm c) (st.along nms) (λ k. lines_next nms marks _ i k more) (λ e k. line_no body e here nm c k ew within h) e k }

    pub pass_damaged : {x : ℕ} → here + w ≤ 8 * length body → x ≡ ext_of (get_or marks i 0) (value_at body here w) → 299 < x
        → (e : Around) (nms : List Name) (k : Next) → Ended body e (run nms 0 marks k) at place [] k [] (Err (refuse ExtensionTooLarge x 299))
    pass_damaged fits q h e nms k =
        let c = get_or marks i 0 in
        let nm = head_name (drop i nms) in
        rw q (record { to = stop (line nm c) (st.along nms) (λ k. lines_next nms marks _ i k more) (λ e k. line_damaged body e here nm c k ew fits refl (omega (arith, q))) e k })

  -- all are passed
  pub pass_ends : {here there width i v : ℕ} → Passed body at marks place here there width i → i ≡ length marks → v ≡ value_at body (here - width) width
      → (e : Around) (nms : List Name) (k : Next) → Ended body e (run nms 0 marks k) at place [] k [] (ended_at here there v)
  pass_ends {here} {there} {width} {i} {v} st z q e nms k =
      subst (λ (x : ℕ). Ended body e (run nms 0 marks k) at place [] k [] (ended_at here there x)) (sym q)
      (record { to = ended (st.along nms) e k _ (lines_end nms marks _ i k z) })

  pub pass_moved : {here there width i v : ℕ} → Passed body at marks place here there width i → i ≡ length marks → Over at place marks (ended_at here there v)
  pass_moved {here} {there} {width} {i} st z = record { to = balance_end marks at place here there i z st.balance }

-- with a buffer that is empty, nothing is stored
pub none_stored : {body out : List ℕ} {e : Around} {at place : ℕ} {s : Syntax} {k : Next} {r : Result (RunEnd ℕ) Refusal} → length out ≡ 0 → Ended body e s at place [] k [] r → Ended body e s at place out k out r
none_stored {out = []} z x = x
none_stored {out = y ∷ ys} z x = absurd (omega arith)
