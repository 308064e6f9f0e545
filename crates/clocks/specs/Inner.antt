-- The two steps of a clock's reading, in contracts within the crate: its fields, and then the test of its extension.
-- Assumes nothing: these are definitions.
use Rattle.std.specs.Prelude.{ℕ, cond, List, leb, Result, Ok, Err}
use Rattle.format.specs.Refusals.{refuse}
use Rattle.format.specs.Syntax.{end, before}
use Rattle.format.specs.Tables.{clock}
use Rattle.format.specs.At.{read, found_at}
use Rattle.format.specs.declared.Refusal.{Refusal}
use Rattle.format.specs.declared.Found.{Found}
use Rattle.format.specs.declared.Fault.TheVariants.{ExtensionTooLarge}
use Rattle.clocks.specs.Clocks.{clock_by}
use Rattle.clocks.specs.declared.Clock.{Clock}

-- the fields of a clock that is read alone, whatever its extension
unfoldable pub fields_at : List ℕ → ℕ → Result (Found Clock) Refusal
fields_at b p = read b 0 (before (clock "ncr" end)) p (λ ts q. found_at (clock_by "ncr" ts) q) Err

-- a clock whose fields were read, or the refusal of its extension
unfoldable pub tested : Found Clock → Result (Found Clock) Refusal
tested x = cond (leb x.value.ext 299) (Ok x) (Err (refuse ExtensionTooLarge x.value.ext 299))
