-- `read_plan` goes through a plan: its length before its fields in the second edition, and behind them in the first.
-- Assumes nothing.
use Prim.Native.Nat.{ℕ, ◌+◌, ◌*◌, ◌≤◌}
use mathlib.Core.Path.{◌≡◌}
use mathlib.Core.List.{List, [], ◌∷◌}
use native.Mathlib.Omega.{arith}
use lib.ListN.{length}
use borrow.Author.Rules.{rules}
use Rattle.std.specs.Prelude.{Ok}
use Rattle.format.specs.Syntax.{Name, Syntax, plan}
use Rattle.format.specs.declared.Edition.TheVariants.{First, Second}
use Rattle.format.specs.Tables.{hopping, beamhopping}
use Rattle.format.proofs.DigitLaws.{length_digits}
use Rattle.read_runs.specs.declared.step.Step.{Step}
use Rattle.runs.specs.Lines.{sign_of, width_of, size_of, run}
use Rattle.read_runs.specs.Came.{Way, way_of, some_way, Laid}
use Rattle.read_runs.proofs.Moved.{run_moved}
use Rattle.read_runs.proofs.Stores.{fits}
use Rattle.write_plans.proofs.Names.{plan_names}
use Rattle.read_plans.proofs.TakenLaws.{taken_no, plan_took}
use Rattle.read_plans.proofs.OpenLaws.{opened_in, closed_in, length_no, inner_no, inner_first, inner_second, opened_first, laid_length}
use Rattle.read_plans.proofs.read_plan.Goals as goal

-- what follows the first run
abbrev rest : ℕ → Syntax
rest _ = plan "plan_length" hopping

-- where the first run came to
headed : {l out out' : List ℕ} {place at : ℕ} {x : Step} → place ≤ length l → at + 8 ≤ 8 * place
    → ((way : Way) (nms : List Name) (k : ℕ → Syntax) → Laid way l (run nms 0 (32 ∷ 4 ∷ []) k) place at out k out' (Ok x)) → (x.at ≡ at + 36) × (x.at + 12 ≤ 8 * x.place)
unfolding sign_of width_of size_of
headed h p y =
    let m = run_moved (32 ∷ 4 ∷ []) h y in
    (omega (arith, m), omega (arith, m, p))

pub returns-in_err-head : goal.returns-in_err-head
unfolding beamhopping run sign_of width_of
returns-in_err-head c = taken_no (search rules) (c.in_err-head.ensures.laid (way_of c.args.edition c.args.last) plan_names rest)

pub read_length-requires : goal.read_length-requires
read_length-requires c = record { ahead = (headed c.args.from.placed.within c.requires.ahead c.in_ok-head.ensures.laid).1 }

pub returns-in_err-length : goal.returns-in_err-length
unfolding beamhopping run sign_of width_of
returns-in_err-length c =
    let a = c.args in
    let x = (c.in_ok-head.ensures.laid (way_of a.edition a.last) plan_names rest).to in
    length_no a.edition a.last x.came (search rules) (opened_in x.same c.in_err-length.ensures)

pub returns-in_err-hopping : goal.returns-in_err-hopping
unfolding beamhopping run sign_of width_of
returns-in_err-hopping c =
    let a = c.args in
    let x = (c.in_ok-head.ensures.laid (way_of a.edition a.last) plan_names rest).to in
    inner_no a.edition a.last x.came (opened_in x.same c.in_ok-length.ensures) (search rules) c.in_err-hopping.ensures.laid

pub overflow_sub-hopping : goal.overflow_sub-hopping
overflow_sub-hopping c =
    omega (arith, opened_first (rw c.in-First.is at c.in_ok-length.ensures), (c.in_ok-hopping.ensures.laid some_way).to.came.size)

pub read_filler-requires : goal.read_filler-requires
read_filler-requires c =
    let d = (rw c.in-Second.is at c.in_ok-length.ensures).to.1 in
    let w = (c.in_ok-hopping.ensures.laid some_way).to.came in
    record { start_bound = (omega (arith, d, w.size), omega (arith, d, w.size, c.in_ok-hopping.ensures.spared.to)) }

pub returns-in-First : goal.returns-in-First
unfolding beamhopping run sign_of width_of
returns-in-First c =
    let a = c.args in
    let h = headed a.from.placed.within c.requires.ahead c.in_ok-head.ensures.laid in
    let x = (c.in_ok-head.ensures.laid (way_of First a.last) plan_names rest).to in
    let o = opened_in x.same (rw c.in-First.is at c.in_ok-length.ensures) in
    let e = opened_first o in
    let w = inner_first c.in_ok-hopping.ensures.laid a.last o in
    let b = laid_length _ _ _ _ _ e.0 (fits _ _ _ _ 12 c.lay.ensures (length_digits 2 12 _)) in
    rw c.in-First.is
    (record {
      to = record {
        same = w.same;
        took = plan_took x.came w.came b (search rules) (omega (arith, h.0, e, x.came.slack, c.in_ok-hopping.ensures.spared.to));
      };
    })

pub returns-in-Second : goal.returns-in-Second
unfolding beamhopping run sign_of width_of
returns-in-Second c =
    let a = c.args in
    let x = (c.in_ok-head.ensures.laid (way_of Second a.last) plan_names rest).to in
    let o = opened_in x.same (rw c.in-Second.is at c.in_ok-length.ensures) in
    let w = inner_second c.in_ok-hopping.ensures.laid a.last o in
    rw c.in-Second.is ((closed_in w.same c.read_filler.ensures).to beamhopping a.from.place a.from.at a.out.now _ x.came w.came)
