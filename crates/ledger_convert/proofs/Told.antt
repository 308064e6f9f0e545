-- What comes of an archive grows by what comes of its next ledger.
-- Assumes nothing.
use Prim.Native.Nat.{ℕ, ◌+◌, ◌<◌, ◌≤◌}
use native.Mathlib.Omega.{arith}
use native.Mathlib.Nat.{add-zero, zero-add}
use mathlib.Core.Path.{◌≡◌, refl, sym, ap, ◌∙◌, subst}
use mathlib.Core.Bool.{Bool, true, ◌&&◌}
use mathlib.Core.List.{List, [], ◌∷◌, ◌++◌, append_assoc, append-nil}
use lib.ListN.{length, length-append}
use Rattle.std.specs.Prelude.{Option, Ok}
use Rattle.std.specs.Io.KnownBytes.{Appends}
use Rattle.std.proofs.KnownBytes.{Appends-nil, Appends-trans}
use Rattle.std.specs.List.{concat}
use Rattle.format.specs.declared.Edition.{Edition}
use Rattle.format.specs.Convert.{converted}
use Rattle.ledger_convert.specs.Archive.{size_in_front, cut, ledgers_in, written, reported, outputs, reports}
use Rattle.ledger_convert.specs.Archive.{archive_output, archive_report, is_empty}
use Rattle.ledger_convert.specs.Streams.{Sent, Told}
use Rattle.ledger_convert.proofs.Cuts.{Closed, one_more, concat_none, concat_more, joined_ledgers}

pub outputs_append : (ed : Edition) (ls ms : List (List ℕ)) → outputs ed (ls ++ ms) ≡ outputs ed ls ++ outputs ed ms
unfolding outputs
outputs_append ed [] ms = refl
outputs_append ed (l ∷ ls) ms =
    ap (λ (t : List ℕ). written (converted ed l) ++ t) (outputs_append ed ls ms)
    ∙ sym (append_assoc (written (converted ed l)) (outputs ed ls) (outputs ed ms))

pub reports_append : (ed : Edition) (place : ℕ) (ls ms : List (List ℕ))
    → reports ed place (ls ++ ms) ≡ reports ed place ls ++ reports ed (place + length (concat ls)) ms
unfolding reports
reports_append ed place [] ms =
    ap (λ (p : ℕ). reports ed p ms) (sym (ap (λ (t : List ℕ). place + length t) concat_none ∙ add-zero place))
reports_append ed place (l ∷ ls) ms =
    let far : (place + length l) + length (concat ls) ≡ place + length (concat (l ∷ ls)) =
    omega (arith, length-append l (concat ls), ap length (concat_more l ls)) in
    ap (λ (t : List ℕ). reported place (converted ed l) ++ t) (reports_append ed (place + length l) ls ms)
    ∙ sym (append_assoc (reported place (converted ed l)) (reports ed (place + length l) ls) _)
    ∙ ap (λ (p : ℕ). reports ed place (l ∷ ls) ++ reports ed p ms) far

pub empty_append : (xs ys : List ℕ) → is_empty (xs ++ ys) ≡ is_empty xs && is_empty ys
unfolding is_empty
empty_append [] ys = refl
empty_append (x ∷ xs) ys = refl

module _ (ed : Edition) (xs l : List ℕ) (c : Closed xs) (h : 0 < length l) (k : length l ≤ size_in_front l) where
  pub output_more : archive_output ed (xs ++ l) ≡ archive_output ed xs ++ written (converted ed l)
  unfolding archive_output outputs
  output_more =
      ap (outputs ed) (one_more xs l c h k) ∙ outputs_append ed (ledgers_in xs) (l ∷ [])
      ∙ ap (λ (t : List ℕ). archive_output ed xs ++ t) (append-nil (written (converted ed l)))

  pub report_more : archive_report ed (xs ++ l) ≡ archive_report ed xs ++ reported (length xs) (converted ed l)
  unfolding archive_report reports
  report_more =
      let place : 0 + length (concat (ledgers_in xs)) ≡ length xs = rw (joined_ledgers xs) (zero-add (length xs)) in
      ap (reports ed 0) (one_more xs l c h k) ∙ reports_append ed 0 (ledgers_in xs) (l ∷ [])
      ∙ ap (λ (p : ℕ). archive_report ed xs ++ reports ed p (l ∷ [])) place
      ∙ ap (λ (t : List ℕ). archive_report ed xs ++ t) (append-nil (reported (length xs) (converted ed l)))

  pub told_more : {out out' out'' report report' report'' : Option (List ℕ)} {all b : Bool}
      → Told ed xs out out' report report' → all ≡ is_empty (archive_report ed xs)
      → Sent {E = Unit {0}} ed (length xs) l out' out'' report' report'' (Ok b)
      → Told ed (xs ++ l) out out'' report report'' × (all && b ≡ is_empty (archive_report ed (xs ++ l)))
  told_more {out} {out'} {out''} {report} {report'} {report''} {all} {b} t e s =
      let r = reported (length xs) (converted ed l) in
      let o = Appends-trans out out' out'' (archive_output ed xs) (written (converted ed l)) t.on_output s.0 in
      let p = Appends-trans report report' report'' (archive_report ed xs) r t.on_report s.1 in (
        record {
          on_output = subst (Appends out out'') (sym output_more) o;
          on_report = subst (Appends report report'') (sym report_more) p;
        },
        rw (e, s.2) (sym (empty_append (archive_report ed xs) r)) ∙ ap is_empty (sym report_more),
      )

pub told_none : (ed : Edition) (out report : Option (List ℕ)) → Told ed [] out out report report
unfolding archive_output archive_report ledgers_in outputs reports cut
told_none ed out report = record { on_output = Appends-nil out; on_report = Appends-nil report }

pub none_empty : (ed : Edition) → true ≡ is_empty (archive_report ed [])
unfolding archive_report ledgers_in reports cut is_empty
none_empty ed = refl
