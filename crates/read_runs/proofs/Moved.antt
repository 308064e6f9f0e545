-- How far a reading goes: a run by the widths of its fields, and what a description that is fine reads by whole bytes.
-- Assumes nothing.
use Prim.Native.Nat.{ℕ, ◌+◌, ◌%◌, ◌^◌, ◌≤◌}
use mathlib.Core.Path.{◌≡◌, sym, ap, ◌∙◌}
use mathlib.Core.Bool.{Bool, false}
use mathlib.Core.List.{List, [], ◌∷◌}
use native.Mathlib.Omega.{arith}
use lib.Dec.{eqb}
use lib.ListN.{length, take, drop, length-drop}
use lib.Seq.{drop-drop}
use Rattle.std.specs.Prelude.{Ok}
use Rattle.format.specs.Digits.{Below, value}
use Rattle.format.specs.Syntax.{Name, Syntax, end, Field, num, Parse, got, push}
use Rattle.format.specs.declared.Edition.{Edition}
use Rattle.format.specs.Body.{laid, kept}
use Rattle.format.specs.Ledger.{widened, read_ledger}
use Rattle.format.proofs.DigitLaws.{below_drop}
use Rattle.format.proofs.ParseLaws.{push_got, grant_got}
use Rattle.format.proofs.Good.{Fine, fine_before, whole, laid_nil, laid_num}
use Rattle.format.proofs.Forms.{kept_form}
use Rattle.format.proofs.LedgerLaws.{found}
use Rattle.runs.specs.Lines.{sign_of, width_of, size_of, tested, run, widths_of, sizes_of, head_name, tail_names}
use Rattle.read_runs.specs.declared.step.Step.{Step}
use Rattle.write_runs.proofs.WentLaws.{pushes_got}
use Rattle.read_runs.specs.Came.{Way, some_way, Came, Laid}
use Rattle.read_runs.proofs.CameLaws.{test_passed}

-- ---- how far a run goes

run_got : (ed : Edition) (last : Bool) (n : ℕ) (nms : List Name) (v : ℕ) (marks bs : List ℕ) {ts : List Field} {rest : List ℕ} → read_ledger ed last n (run nms v marks (λ _. end)) bs ≡ got ts rest
    → (length (laid ed ts) ≡ widths_of marks) × (sizes_of marks ≤ length bs) × (rest ≡ drop (sizes_of marks) bs)
unfolding read_ledger run size_of
run_got ed last n nms v [] bs {ts} {rest} q =
    let e : ts ≡ [] = cc in
    let d : rest ≡ bs = cc in
    (rw e (laid_nil ed), omega arith, d)
run_got ed last n nms v (c ∷ cs) bs {ts} {rest} q =
    let z : ℕ = size_of c in
    let x : ℕ = value 256 (take z bs) in
    let y : ℕ = x % 2 ^ width_of c in
    let t : Field = num (sign_of c) (head_name nms) (width_of c) y in
    let s : Syntax = run (tail_names nms) y cs (λ _. end) in
    let more : Parse (List Field) = read_ledger ed last n (tested c y s) (drop z bs) in
    let p = grant_got n z (eqb (widened (sign_of c) (width_of c) y) x) bs (push t more) q in
    let o = push_got t more p.2 in
    let r = run_got ed last n (tail_names nms) y cs (drop z bs) (sym (test_passed ed last n c y s (drop z bs)) ∙ o.1) in (
      rw o.2 (laid_num ed (sign_of c) (head_name nms) (width_of c) y o.0 ∙ ap (λ (k : ℕ). width_of c + k) r.0),
      omega (arith, p.0, r.1, length-drop z bs),
      r.2 ∙ drop-drop (sizes_of cs) z bs,
    )

pub run_moved : (marks : List ℕ) {l out out' : List ℕ} {place at : ℕ} {x : Step} → place ≤ length l
    → ((way : Way) (nms : List Name) (k : ℕ → Syntax) → Laid way l (run nms 0 marks k) place at out k out' (Ok x))
    → (x.at ≡ at + widths_of marks) × (x.place ≡ place + sizes_of marks)
unfolding read_ledger
run_moved marks {l} {out} {out'} {place} {at} {x} h y =
    let p : ℕ = x.place in
    let w : Came some_way l (run [] 0 marks (λ _. end)) place at out end p x.at out' = (y some_way [] (λ _. end)).to.came in
    let g = run_got some_way.edition some_way.last (length l) [] 0 marks (drop place l) (w.reads ∙ pushes_got w.ts (drop p l)) in (
      omega (arith, w.size, g.0),
      omega (arith, g.1, ap length g.2, w.within, length-drop p l, length-drop place l, length-drop (sizes_of marks) (drop place l)),
    )

-- ---- whole bytes

pub read_whole : {ts : List Field} {rest : List ℕ} (ed : Edition) (last : Bool) (l : List ℕ) (s : Syntax) (place : ℕ) → Fine false 0 0 s → Below 256 l
    → read_ledger ed last (length l) s (drop place l) ≡ got ts rest → length (laid ed ts) % 8 ≡ 0
read_whole {ts} ed last l s place f b e =
    let r = found (length l) ed last false 0 0 s (drop place l) f (below_drop 256 place l b) e in
    let z : laid ed ts ≡ kept ts = sym (kept_form ed ts) ∙ ap kept r.same in
    omega (arith, ap length z, whole ed 0 0 r.good (fine_before false 0 0 s f))

pub came_whole : {way : Way} {l out out' : List ℕ} {s : Syntax} {place p at a : ℕ} → Fine false 0 0 s → Below 256 l → at % 8 ≡ 0 → Came way l s place at out end p a out' → a % 8 ≡ 0
unfolding read_ledger
came_whole {way} {l} {s = s} {place} {p} f b h w = omega (arith, w.size, read_whole way.edition way.last l s place f b (w.reads ∙ pushes_got w.ts (drop p l)))
