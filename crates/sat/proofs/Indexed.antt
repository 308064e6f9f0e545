-- The entry at an index, by how the walk over the body ended.
-- Assumes nothing.
use Prim.Native.Nat.{ℕ}
use mathlib.Core.Path.{◌≡◌, refl}
use mathlib.Core.List.{List}
use Rattle.std.specs.Prelude.{Option, Some, None, Result, Ok, Err}
use Rattle.format.specs.Whole.{body_starts}
use Rattle.format.specs.At.{seek, entry_if}
use Rattle.format.specs.declared.Refusal.{Refusal}
use Rattle.entries.specs.Entries.{walked}
use Rattle.entries.specs.declared.Walk.{Walk}
use Rattle.sat.specs.Sat.{entry_of, typed_at, some_entry}
use Rattle.sat.specs.declared.SatEntry.{SatEntry}
use Rattle.sat.proofs.Made.{walked_on, walked_off}

module _ (id : ℕ) (b : List ℕ) (i : ℕ) {r : Result Walk Refusal} (h : r ≡ seek b i walked Err (body_starts id b)) where
  made : ℕ → Option ℕ → ℕ → Result (Option SatEntry) Refusal
  made n p e = entry_if (λ q. some_entry (typed_at id b q)) (Ok None) p

  pub entry_refused : {f : Refusal} → r ≡ Err f → Err f ≡ entry_of id b i
  unfolding entry_of
  entry_refused m = walked_off b i (λ n p e. entry_if (λ q. some_entry (typed_at id b q)) (Ok None) p) Err (body_starts id b) h m refl

  pub entry_none : {w : Walk} → r ≡ Ok w → w.place ≡ None → Ok None ≡ entry_of id b i
  unfolding entry_of
  entry_none m k = walked_on b i (λ n p e. entry_if (λ q. some_entry (typed_at id b q)) (Ok None) p) Err (body_starts id b) h m (rw k)

  pub entry_found : {w : Walk} {p : ℕ} {x : Result (Option SatEntry) Refusal} → r ≡ Ok w → w.place ≡ Some p → x ≡ some_entry (typed_at id b p) → x ≡ entry_of id b i
  unfolding entry_of
  entry_found m k q = walked_on b i (λ n p e. entry_if (λ q. some_entry (typed_at id b q)) (Ok None) p) Err (body_starts id b) h m (rw k q)
