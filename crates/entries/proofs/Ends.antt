-- What is made of a reader's answer, as where an entry ends.
-- Assumes nothing.
use Prim.Native.Nat.{ℕ}
use mathlib.Core.Path.{◌≡◌, refl, sym, ap, ◌∙◌}
use mathlib.Core.List.{List}
use Rattle.std.specs.Prelude.{Result, Ok, Err}
use Rattle.format.specs.Syntax.{Syntax, Field}
use Rattle.format.specs.At.{read, found_at, end_of}
use Rattle.format.specs.declared.Refusal.{Refusal}
use Rattle.format.specs.declared.Found.{Found}
use Rattle.format.proofs.ReadLaws.{through}
use Rattle.entries.specs.Entries.{next_of}

-- what is made of what a reader found, as reading by the description makes it
module _ {A B : Type 0} {r : Result (Found A) Refusal} (b : List ℕ) (s : Syntax) (p : ℕ) (of : List Field → A) (make : A → ℕ → Result B Refusal)
    (h : r ≡ read b 0 s p (λ ts q. found_at (of ts) q) Err) where
  after : Result (Found A) Refusal → Result B Refusal
  after (Ok x) = make x.value x.next
  after (Err f) = Err f

  whole : after r ≡ read b 0 s p (λ ts q. make (of ts) q) Err
  unfolding after
  whole = ap after h ∙ through b 0 s p (λ ts q. make (of ts) q) Err (λ ts q. found_at (of ts) q) Err after (λ ts q. refl) (λ f. refl)

  pub made_found : {x : Found A} → r ≡ Ok x → make x.value x.next ≡ read b 0 s p (λ ts q. make (of ts) q) Err
  unfolding after
  made_found m = sym (ap after m) ∙ whole

  pub made_refused : {f : Refusal} → r ≡ Err f → Err f ≡ read b 0 s p (λ ts q. make (of ts) q) Err
  unfolding after
  made_refused m = sym (ap after m) ∙ whole

-- the place behind it
pub ends : {A : Type 0} {r : Result (Found A) Refusal} (b : List ℕ) (s : Syntax) (p : ℕ) (of : List Field → A) → r ≡ read b 0 s p (λ ts q. found_at (of ts) q) Err
    → next_of r ≡ end_of b s p
unfolding end_of
ends b s p of h = ap next_of h ∙ through b 0 s p (λ ts q. Ok q) Err (λ ts q. found_at (of ts) q) Err next_of (λ ts q. refl) (λ f. refl)
