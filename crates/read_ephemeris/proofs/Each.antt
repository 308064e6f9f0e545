-- The loop over ephemeris entries, and which parts of a satellite are whole bytes.
-- Assumes nothing.
use Prim.Native.Nat.{ℕ, suc, ◌+◌, ◌-◌, ◌%◌, ◌≤◌, ◌<◌}
use mathlib.Core.Path.{◌≡◌, refl, subst}
use mathlib.Core.Bool.{false}
use mathlib.Core.List.{List}
use native.Mathlib.Nat.{sub-zero}
use native.Mathlib.Omega.{arith}
use Rattle.std.specs.Prelude.{Result, Ok, Err}
use Rattle.format.specs.Syntax.{Syntax, end}
use Rattle.format.specs.Tables.{times, metadata, ephemeris}
use Rattle.format.specs.declared.Refusal.{Refusal}
use Rattle.format.proofs.Good.{Fine}
use Rattle.read_runs.specs.declared.step.Step.{Step}
use Rattle.read_runs.specs.Came.{Way, Arrived, LaidFrom}
use Rattle.read_runs.proofs.CameLaws.{stay, then, stops}

-- the metadata is whole bytes: 120 bits, in 20 bytes of a ledger, and the usable times
pub fine_metadata : (start stop : ℕ) → Fine false 0 0 (metadata start stop end)
fine_metadata start stop = omega arith

-- and an entry
pub fine_ephemeris : (accel : ℕ) → Fine false 0 0 (ephemeris accel end)
fine_ephemeris accel = omega arith

-- where the entries stand: i of them are laid, and the others are left; f: what an entry adds to what follows it
pub record Each (f : Syntax → Syntax) (count : ℕ) (from : Step) (out₀ : List ℕ) (step : Step) (i : ℕ) (out : List ℕ) : Type 0 where
  pub came : (way : Way) (s : Syntax) → Arrived way from.ledger.now (times count f s) from.place from.at out₀ (times (count - i) f s) step out
  pub aligned : step.at % 8 ≡ 0

pub begin : {f : Syntax → Syntax} {out : List ℕ} (count : ℕ) (from : Step) → from.at % 8 ≡ 0 → Each f count from out from 0 out
begin count from h = record { came = λ way s. rw (sub-zero count) (record { same = refl; came = stay from.placed.within }); aligned = h }

module _ {f : Syntax → Syntax} {count i : ℕ} {from step : Step} {out₀ out : List ℕ} (st : Each f count from out₀ step i out) where
  module _ (h : i < count) where
    one_more : (s : Syntax) → f (times (count - (i + 1)) f s) ≡ times (count - i) f s
    one_more s =
        let e : count - i ≡ suc (count - (i + 1)) = omega arith in
        rw e

    on : {out' : List ℕ} {j : ℕ → Syntax} {r : Result Step Refusal} (way : Way) (s : Syntax) → LaidFrom way step (f (times (count - (i + 1)) f s)) out j out' r
        → LaidFrom way from (times count f s) out₀ j out' r
    on {out'} {j} {r} way s y = then (st.came way s) (subst (λ (z : Syntax). LaidFrom way step z out j out' r) (one_more s) y)

    pub turn : {out' : List ℕ} {x : Step} → ((way : Way) (s : Syntax) → LaidFrom way step (f s) out (λ _. s) out' (Ok x)) → x.at % 8 ≡ 0 → Each f count from out₀ x (i + 1) out'
    turn y m = record { came = λ way s. (on way s (y way (times (count - (i + 1)) f s))).to; aligned = m }

    pub stop : {out' : List ℕ} {g : Refusal} {r : Result Step Refusal} → r ≡ Err g → ((way : Way) (s : Syntax) → LaidFrom way step (f s) out (λ _. s) out' (Err g))
        → (way : Way) (s : Syntax) → LaidFrom way from (times count f s) out₀ (λ _. s) out' r
    stop q y way s = on way s (stops q (y way _))

  pub ended : count ≤ i → (way : Way) (s : Syntax) → Arrived way from.ledger.now (times count f s) from.place from.at out₀ s step out
  ended h way s =
      let e : count - i ≡ 0 = omega arith in
      rw e at (st.came way s)
