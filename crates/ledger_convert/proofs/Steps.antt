-- A step of the run: the next ledger is taken of the input, and what comes of it is told.
-- Assumes nothing.
use Prim.Native.Nat.{ℕ, ◌+◌, ◌<◌, ◌≤◌}
use native.Mathlib.Omega.{arith}
use mathlib.Core.Path.{◌≡◌, sym, ap, ◌∙◌, subst}
use mathlib.Core.Bool.{Bool, ◌&&◌}
use mathlib.Core.List.{List, [], ◌++◌, append-nil}
use lib.ListN.{length, take, length-append}
use lib.Seq.{length-take-le}
use Rattle.std.specs.Prelude.{Option, Ok}
use Rattle.std.specs.Io.KnownBytes.{Consumes, IsAtEnd}
use Rattle.std.proofs.KnownBytes.{Consumes-trans}
use Rattle.format.specs.declared.Edition.{Edition}
use Rattle.ledger_convert.specs.Archive.{size_in_front, archive_report, is_empty}
use Rattle.ledger_convert.specs.Streams.{Fetched, Sent, Told}
use Rattle.ledger_convert.proofs.Cuts.{Closed, two_at_least}
use Rattle.ledger_convert.proofs.Told.{told_more}

-- nothing more came
pub ended : (old mid new : Option (List ℕ)) (xs buffer : List ℕ) (n : ℕ) → Consumes old mid xs
    → Fetched {E = Unit {0}} mid new buffer (Ok n) → n ≡ 0 → Consumes old new xs × IsAtEnd new
ended old mid new xs buffer n c f e =
    let none : take n buffer ≡ [] = ap (λ (k : ℕ). take k buffer) e in
    let all = Consumes-trans old mid new xs (take n buffer) c f.1 in
    let same : xs ++ take n buffer ≡ xs = ap (λ (t : List ℕ). xs ++ t) none ∙ append-nil xs in
    (subst (Consumes old new) same all, f.3 (omega (arith, e, two_at_least (take n buffer))))

-- the place behind a ledger
pub further : (mid new : Option (List ℕ)) (xs buffer : List ℕ) (n place : ℕ) → length xs ≡ place
    → Fetched {E = Unit {0}} mid new buffer (Ok n) → length (xs ++ take n buffer) ≡ place + n
further mid new xs buffer n place far f =
    length-append xs (take n buffer) ∙ omega (arith, far, length-take-le n buffer f.0)

module _ (ed : Edition) (old mid new out out' out'' report report' report'' : Option (List ℕ)) (xs buffer : List ℕ)
    (n place : ℕ) (all b : Bool) (far : length xs ≡ place) (c : Closed xs) (f : Fetched {E = Unit {0}} mid new buffer (Ok n)) where
  -- a ledger came, and was told of
  pub stepped : Consumes old mid xs → Told ed xs out out' report report' → all ≡ is_empty (archive_report ed xs)
      → (n ≡ 0 → ⊥) → Sent {E = Unit {0}} ed place (take n buffer) out' out'' report' report'' (Ok b)
      → Consumes old new (xs ++ take n buffer) × Told ed (xs ++ take n buffer) out out'' report report''
      × (all && b ≡ is_empty (archive_report ed (xs ++ take n buffer)))
  stepped t told e some s =
      let long = length-take-le n buffer f.0 in
      let here : Sent {E = Unit {0}} ed (length xs) (take n buffer) out' out'' report' report'' (Ok b) =
      subst (λ (p : ℕ). Sent {E = Unit {0}} ed p (take n buffer) out' out'' report' report'' (Ok b)) (sym far) s in
      let some_bytes : 0 < length (take n buffer) = omega (arith, long, some) in
      let front : length (take n buffer) ≤ size_in_front (take n buffer) = omega (arith, long, f.2) in
      let more = told_more ed xs (take n buffer) c some_bytes front told e here in
      (Consumes-trans old mid new xs (take n buffer) t f.1, more.0, more.1)
