-- A clock's fields, and then the test of its extension, are its reading.
-- Assumes nothing.
use Prim.Native.Nat.{ℕ, ◌+◌, ◌*◌, ◌≤◌, ◌<◌}
use mathlib.Core.Path.{◌≡◌, sym, ap, ◌∙◌}
use mathlib.Core.List.{List}
use native.Mathlib.Omega.{arith}
use lib.ListN.{length}
use Rattle.std.specs.Prelude.{Result, Ok, Err}
use Rattle.format.specs.Refusals.{refuse}
use Rattle.format.specs.Syntax.{end}
use Rattle.format.specs.ByName.{first_by}
use Rattle.format.specs.At.{found_at}
use Rattle.format.specs.declared.Refusal.{Refusal}
use Rattle.format.specs.declared.Found.{Found}
use Rattle.format.specs.declared.Fault.TheVariants.{FieldCut}
use Rattle.format.proofs.ReadLaws as laws
use Rattle.bits.specs.Read.{Place, Room}
use Rattle.bits.proofs.Tests.{at_most, not_at_most}
use Rattle.clocks.specs.Clocks.{clock_at, clock_of}
use Rattle.clocks.specs.Inner.{fields_at, tested}
use Rattle.clocks.specs.declared.Clock.{Clock}
use Rattle.clocks.proofs.Clocks.{put, cut_at, alone, all_there, cut_short, clock_there, clock_above, clock_cut, cases}

-- the test of whatever the fields were found to be
retested : Result (Found Clock) Refusal → Result (Found Clock) Refusal
retested (Ok x) = tested x
retested (Err f) = Err f

module _ (b : List ℕ) (p : ℕ) where
  -- the fields, where all of them are there, and where they are cut short
  fields_there : p + 48 ≤ 8 * length b → fields_at b p ≡ found_at (clock_of b p) (p + 48)
  unfolding fields_at first_by
  fields_there h =
      all_there b 0 p "ncr" (λ _. end) alone Err h ∙ laws.end_at b 0 (p + 48) (λ ts. alone (put "ncr" (clock_of b p) ts)) Err h

  fields_cut : p ≤ 8 * length b → 8 * length b < p + 48
      → fields_at b p ≡ Err (refuse FieldCut (cut_at (8 * length b) p) (8 * length b))
  unfolding fields_at
  fields_cut l h = cut_short b 0 p "ncr" (λ _. end) alone Err l h

  -- the test of a clock that is all there
  whole : p + 48 ≤ 8 * length b → tested (record { value = clock_of b p; next = p + 48 }) ≡ clock_at b p
  unfolding tested
  whole h =
      cases b p
      (λ _ m. sym (at_most _ _ m (clock_there b p h m)))
      (λ _ m. sym (not_at_most _ _ m (clock_above b p h m)))
      (λ m. absurd (omega arith))

  -- the two steps are the reading
  by_steps : Place b p → retested (fields_at b p) ≡ clock_at b p
  unfolding retested
  by_steps l =
      cases b p
      (λ h _. ap retested (fields_there h) ∙ whole h)
      (λ h _. ap retested (fields_there h) ∙ whole h)
      (λ h. ap retested (fields_cut l.within h) ∙ sym (clock_cut b p l.within h))

  -- fields that were read and then tested, or were refused; and the test of a clock in a group that is there
  pub read_tested : {r a : Result (Found Clock) Refusal} {x : Found Clock} → Place b p → a ≡ tested x
      → r ≡ fields_at b p → r ≡ Ok x → a ≡ clock_at b p
  unfolding retested
  read_tested l q e m = q ∙ ap retested (sym m ∙ e) ∙ by_steps l

  pub fields_refused : {r a : Result (Found Clock) Refusal} {f : Refusal} → Place b p → r ≡ fields_at b p → r ≡ Err f
      → a ≡ Err f → a ≡ clock_at b p
  unfolding retested
  fields_refused l e m q = q ∙ ap retested (sym m ∙ e) ∙ by_steps l

  pub within : {a : Result (Found Clock) Refusal} {k : Clock} → Room b p 48 → k ≡ clock_of b p
      → a ≡ tested (record { value = k; next = p + 48 })
      → a ≡ clock_at b p
  within l e q = q ∙ ap (λ (z : Clock). tested (record { value = z; next = p + 48 })) e ∙ whole l.fits
