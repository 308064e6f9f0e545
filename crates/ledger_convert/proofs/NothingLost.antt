-- Nothing of an archive is lost: its ledgers joined are the archive, each is either written or reported, and what is
-- written is again an archive, of the ledgers that were converted.
-- Assumes nothing.
use Prim.Native.Nat.{ℕ, zero, suc, ◌-◌, ◌<◌}
use native.Mathlib.Omega.{arith}
use mathlib.Core.Path.{◌≡◌, refl, sym, ap, ◌∙◌, subst}
use mathlib.Core.Bool.{Bool, true, false, ◌&&◌}
use mathlib.Core.List.{List, [], ◌∷◌, ◌++◌, append-nil}
use lib.Dec.{leb, eqb}
use lib.ListN.{length, take, drop}
use borrow.Author.Tests.{leb-true, eqb-true}
use Rattle.std.specs.Prelude.{Option, Some, None, Ok}
use Rattle.format.specs.Digits.{value, Below}
use Rattle.format.specs.Refusals.{fault_number}
use Rattle.format.specs.Syntax.{Parse, got, refused}
use Rattle.format.specs.declared.Fault.{Fault}
use Rattle.format.specs.declared.Fault.TheVariants.{LedgerMisfit}
use Rattle.format.specs.declared.Edition.{Edition}
use Rattle.format.specs.Whole.{ledger_read}
use Rattle.format.specs.Convert.{converted}
use Rattle.format.proofs.DigitLaws.{below_take, below_drop}
use Rattle.format.proofs.Demand.{passed}
use Rattle.format.proofs.ConvertLaws.{accepted_conversion}
use Rattle.ledger_text.specs.Text.{refusal_line, placed}
use Rattle.ledger_convert.specs.Archive.{size_in_front, cut, ledgers_in, written, reported, outputs}
use Rattle.ledger_convert.specs.Archive.{archive_output, archive_report, is_empty}
use Rattle.ledger_convert.specs.Streams.{Ran}
use Rattle.ledger_convert.proofs.Cuts.{first_ledger}
use Rattle.ledger_convert.proofs.Conversions.{placed_some}

-- ---- a ledger

-- what becomes of a ledger at a place: it is written, converted, and there is no report; or nothing is written, and the
-- report has the place and the refusal
pub data Fate (ed : Edition) (place : ℕ) (l : List ℕ) : Type 0 where
  is_written : (l' rest : List ℕ) → converted ed l ≡ got l' rest → written (converted ed l) ≡ l'
      → reported place (converted ed l) ≡ [] → Fate ed place l
  is_reported : (f : Fault) (y z : ℕ) → converted ed l ≡ refused f y z → written (converted ed l) ≡ []
      → reported place (converted ed l) ≡ placed place (refusal_line (fault_number f) y z)
      → is_empty (reported place (converted ed l)) ≡ false → Fate ed place l

pub fate : (ed : Edition) (place : ℕ) (l : List ℕ) → Fate ed place l
unfolding written reported
fate ed place l = go (converted ed l) refl
  where
    go : (p : Parse (List ℕ)) → converted ed l ≡ p → Fate ed place l
    go (got l' rest) e = is_written l' rest e (rw e refl) (rw e refl)
    go (refused f y z) e =
        let line = placed_some place (refusal_line (fault_number f) y z) in
        is_reported f y z e (rw e refl) (rw e refl) (rw e line)

-- a ledger that the archive's end cut off is refused by 23 at 0
pub cut_off : (ed : Edition) (l : List ℕ) → length l < size_in_front l → converted ed l ≡ refused LedgerMisfit 0 0
unfolding converted ledger_read size_in_front
cut_off ed l h =
    let low = go (leb 4 (length l)) (eqb (value 256 (take 2 l)) (length l - 2)) refl refl in
    rw low refl
  where
    go : (a b : Bool) → leb 4 (length l) ≡ a → eqb (value 256 (take 2 l)) (length l - 2) ≡ b
        → leb 4 (length l) && eqb (value 256 (take 2 l)) (length l - 2) ≡ false
    go false b p q = rw p refl
    go true false p q = rw (p, q) refl
    go true true p q =
        let four = leb-true 4 (length l) p in
        let same = eqb-true (value 256 (take 2 l)) (length l - 2) q in
        absurd (omega (arith, four, same, h))

-- a converted one has its own length in front
pub result_whole : (ed : Edition) (l : List ℕ) {l' rest : List ℕ} → Below 256 l → converted ed l ≡ got l' rest
    → length l' ≡ size_in_front l'
unfolding size_in_front
result_whole ed l {l'} h e =
    let p = passed l' (accepted_conversion ed l h e).again in
    omega (arith, p.four, p.long)

-- ---- what is written is an archive again

-- the ledgers that are converted, in the wanted edition
pub moved_one : Parse (List ℕ) → List (List ℕ) → List (List ℕ)
moved_one (got l' rest) ls = l' ∷ ls
moved_one (refused fault needed had) ls = ls

pub moved : Edition → List (List ℕ) → List (List ℕ)
moved ed [] = []
moved ed (l ∷ ls) = moved_one (converted ed l) (moved ed ls)

-- ledgers of bytes
abbrev AllBytes : List (List ℕ) → Type 0
AllBytes [] = Unit {0}
AllBytes (l ∷ ls) = Below 256 l × AllBytes ls

cut_bytes : (n : ℕ) (xs : List ℕ) → Below 256 xs → AllBytes (cut n xs)
unfolding cut
cut_bytes zero xs h = tt
cut_bytes (suc n) [] h = tt
cut_bytes (suc n) (x ∷ xs) h =
    let size : ℕ = size_in_front (x ∷ xs) in
    (below_take 256 size (x ∷ xs) h, cut_bytes n (drop size (x ∷ xs)) (below_drop 256 size (x ∷ xs) h))

outputs_cut : (ed : Edition) (ls : List (List ℕ)) → AllBytes ls → ledgers_in (outputs ed ls) ≡ moved ed ls
unfolding outputs written moved moved_one ledgers_in cut
outputs_cut ed [] h = refl
outputs_cut ed (l ∷ ls) h = go (converted ed l) refl (outputs_cut ed ls h.1)
  where
    go : (p : Parse (List ℕ)) → converted ed l ≡ p → ledgers_in (outputs ed ls) ≡ moved ed ls
        → ledgers_in (written (converted ed l) ++ outputs ed ls) ≡ moved_one (converted ed l) (moved ed ls)
    go (got l' rest) e k =
        let first = first_ledger l' (outputs ed ls) (result_whole ed l h.0 e) in
        rw e (first ∙ ap (λ (ms : List (List ℕ)). l' ∷ ms) k)
    go (refused f y z) e k = rw e k

-- cut as any archive, the output has just the converted ledgers, in their order
pub output_archive : (ed : Edition) (xs : List ℕ) → Below 256 xs
    → ledgers_in (archive_output ed xs) ≡ moved ed (ledgers_in xs)
unfolding archive_output ledgers_in
output_archive ed xs h = outputs_cut ed (cut (length xs) xs) (cut_bytes (length xs) xs h)

-- ---- a run

-- where all bytes are known: what the streams hold at the end
pub run_is : (ed : Edition) (xs out out' report report' : List ℕ) (new : Option (List ℕ)) (all : Bool)
    → Ran ed (Some xs) new (Some out) (Some out') (Some report) (Some report') (Ok all)
    → (out' ≡ out ++ archive_output ed xs) × (report' ≡ report ++ archive_report ed xs)
    × (all ≡ is_empty (archive_report ed xs))
run_is ed xs out out' report report' None all r = absurd (r.1)
run_is ed xs out out' report report' (Some ys) all r =
    let whole : r.0 ≡ xs = sym (r.1 ∙ ap (λ (t : List ℕ). r.0 ++ t) r.2 ∙ append-nil (r.0)) in
    subst (λ (t : List ℕ). (out' ≡ out ++ archive_output ed t) × (report' ≡ report ++ archive_report ed t)
    × (all ≡ is_empty (archive_report ed t))) whole (r.3.on_output, r.3.on_report, r.4)
