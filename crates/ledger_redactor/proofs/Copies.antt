-- What is known of a ledger's copy without covariance, for the calls.
-- Assumes nothing.
use Prim.Native.Nat.{ℕ, ◌≤◌}
use mathlib.Core.Path.{◌≡◌, sym, ap, ◌∙◌, subst}
use mathlib.Core.List.{List, []}
use lib.ListN.{length, drop}
use Rattle.std.specs.Prelude.{Ok}
use Rattle.format.specs.Digits.{digits, Below}
use Rattle.format.specs.Syntax.{got}
use Rattle.format.specs.declared.Edition.{Edition}
use Rattle.format.specs.declared.Output.{Output}
use Rattle.format.specs.Whole.{content_of, ledger_of, id_of, edition_of}
use Rattle.format.specs.Calls.{Fitted}
use Rattle.format.specs.Redact.{redact, satellites, redacted}
use Rattle.format.proofs.Demand.{read_accepted}
use Rattle.format.proofs.RedactLaws.{copy_is, unaltered}
use Rattle.runs.specs.Appended.{AppendedAt, LedgerLaid}
use Rattle.runs.proofs.Appends.{named}
use Rattle.ledger_reader.specs.Measured.{measured}
use Rattle.ledger_reader.specs.Makes.{ReadAs}
use Rattle.ledger_reader.proofs.Results as results

-- the edition that is known is the ledger's own
pub in_its_own : {ed : Edition} {id : ℕ} {l : List ℕ} → ReadAs ed id l → ReadAs (edition_of l) id l
in_its_own {id = id} {l} w = subst (λ (ed : Edition). ReadAs ed id l) w.edition w

-- under another id the content is laid as it is
pub whole_copy : {id : ℕ} {l out out' : List ℕ} {n : ℕ} → Below 256 l → ReadAs (edition_of l) id l → (id ≡ 4 → ⊥)
    → AppendedAt (drop 4 l) 4 out out' n → LedgerLaid (edition_of l) (id_of l) (redacted l) out out' n
unfolding ledger_of digits
whole_copy {id} {l} b w h a =
    let t = w.table in
    let c : List ℕ = content_of (edition_of l) t in
    let is : ledger_of (edition_of l) (id_of l) t ≡ l = (read_accepted l t b w.reads).1 in
    let e : drop 4 l ≡ c = ap (drop 4) (sym is) in
    record {
      content = c;
      is = unaltered l t b w.reads (λ z. h (w.named ∙ z)) ∙ ap (λ (x : List ℕ). got x []) (sym is);
      appended = named e a;
    }

-- a copy has its first four bytes
pub four : {ed : Edition} {id : ℕ} {m o : Output} (l out : List ℕ) → ReadAs ed id l
    → Ok m ≡ measured (id_of l) (redacted l)
    → Fitted m.table_id m.length (length out) (Ok o) → 4 ≤ o.length
unfolding ledger_of
four l out w e fit =
    let c : List ℕ = content_of (edition_of l) (satellites redact (id_of l) w.table) in
    results.four (id_of l) out (redacted l) e fit (edition_of l) c (copy_is l w.table w.reads)
