-- `read_filler`: bytes behind their count, and the test by the numbers that the ledger has.
-- Assumes nothing.
use mathlib.Core.Path.{sym, ◌∙◌}
use native.Mathlib.Omega.{arith}
use borrow.Author.Rules.{rules}
use Rattle.format.specs.declared.Edition.TheVariants.{Second}
use Rattle.format.proofs.DigitLaws.{below_of}
use Rattle.read_runs.specs.Came.{way_of}
use Rattle.read_plans.proofs.KeptLaws.{two_bytes, raw_there, filler_no, kept_no, kept_yes, stands_by}
use Rattle.read_plans.proofs.read_filler.Goals as goal

pub returns-in_err-filler : goal.returns-in_err-filler
returns-in_err-filler c =
    record { to = λ s p₀ a₀ out₀ out₁ x g. filler_no x g (search rules) (c.in_err-filler.ensures (way_of Second c.args.last) "filler") }

pub get_be-mode-requires : goal.get_be-mode-requires
get_be-mode-requires c =
    let pre = c.requires in
    (omega (arith, pre.start_bound, raw_there (c.in_ok-filler.ensures (way_of Second c.args.last) "filler").to.came c.args.hopping.placed.within), omega arith)

pub overflow_sub-filler : goal.overflow_sub-filler
overflow_sub-filler c = omega (arith, (c.in_ok-filler.ensures (way_of Second c.args.last) "filler").to.came.size)

pub leaves_by-requires : goal.leaves_by-requires
leaves_by-requires c =
    let a = c.args in
    let pre = c.requires in
    let f = (c.in_ok-filler.ensures (way_of Second a.last) "filler").to.came in
    let b = below_of 256 a.hopping.ledger.now a.hopping.bytes in
    let s = two_bytes a.hopping.ledger.now a.start.place b (omega (arith, pre.start_bound, c.args.hopping.placed.within)) in (
      omega (arith, s, c.get_be-length.ensures),
      omega (arith, c.args.hopping.placed.behind, c.args.hopping.placed.within, c.args.hopping.placed.short),
      omega (arith, f.slack, f.within, c.args.hopping.placed.behind, c.args.hopping.placed.short),
    )

pub returns-then-leaves_by : goal.returns-then-leaves_by
returns-then-leaves_by c =
    let a = c.args in
    let b = below_of 256 a.hopping.ledger.now a.hopping.bytes in
    let y = (c.in_ok-filler.ensures (way_of Second a.last) "filler").to in
    let f = y.came in
    record {
      to = λ s p₀ a₀ out₀ out₁ x g. record {
        to = record {
          same = y.same;
          took = kept_yes b x g f (sym (stands_by b x g f c.get_be-length.ensures c.get_be-mode.ensures c.leaves_by.ensures) ∙ c.if-leaves_by.true);
        };
      };
    }

pub returns : goal.returns
returns c =
    let a = c.args in
    let b = below_of 256 a.hopping.ledger.now a.hopping.bytes in
    let f = (c.in_ok-filler.ensures (way_of Second a.last) "filler").to.came in
    record { to = λ s p₀ a₀ out₀ out₁ x g. record { to = rw c.refused_at.ensures (kept_no b x g f (raw_there f c.args.hopping.placed.within) (sym (stands_by b x g f c.get_be-length.ensures c.get_be-mode.ensures c.leaves_by.ensures) ∙ c.if-leaves_by.false)) } }
