-- The entries of a body, one after another, as the loop over them writes them.
-- Assumes nothing.
use Prim.Native.Nat.{ℕ, suc, ◌+◌, ◌-◌, ◌*◌, ◌%◌, ◌≤◌, ◌<◌}
use mathlib.Core.Path.{◌≡◌, refl, sym, ap, ◌∙◌}
use mathlib.Core.List.{List, [], ◌∷◌, ◌++◌, append_assoc, append-nil}
use native.Mathlib.Omega.{arith}
use lib.ListN.{length, drop, length-append}
use Rattle.format.specs.Digits.{digits, bits_of, splice}
use Rattle.format.specs.Syntax.{Syntax, end, Field, got}
use Rattle.format.specs.declared.Edition.{Edition}
use Rattle.format.specs.Body.{read_body}
use Rattle.format.specs.Ledger.{ledger}
use Rattle.format.specs.Whole.{ledgers}
use Rattle.format.specs.Lists.{list_id, entry_syntax, least_bits}
use Rattle.format.specs.declared.tables.ListTable.{ListTable}
use Rattle.format.specs.declared.Refusal.{Refusal}
use Rattle.format.proofs.DigitLaws.{length_digits}
use Rattle.format.proofs.NamedLaws.{fine_entry, least_entry, byte_entry}
use Rattle.format.proofs.ReadLaws.{rest_at, place_at}
use Rattle.format.proofs.WalkLaws as walk-laws
use Rattle.format.proofs.WalkLaws.{ahead, ahead_none, ahead_more, turn_on, turn_no, turn_end}
use Rattle.bits.proofs.Splices.{splice_splice, splice_front, splice_nil}
use Rattle.runs.specs.Stored.{stored}
use Rattle.runs.proofs.Stores.{digits_fit}
use Rattle.write_runs.specs.Placed.{Placed}
use Rattle.write_runs.specs.Went.{outside, Went, Stopped}
use Rattle.write_runs.proofs.WentLaws.{pushes_got}
use Rattle.ledger_writer.specs.Listed.{entries_in, entries_at, Wrote, Faulty}

-- ---- ledgers of entries

ledgers_more : (ed : Edition) (es : List (List Field)) (ts : List Field) → ledgers ed (es ++ ts ∷ []) ≡ ledgers ed es ++ ledger ed ts
unfolding ledgers
ledgers_more ed [] ts = append-nil (ledger ed ts)
ledgers_more ed (us ∷ es) ts = rw (ledgers_more ed es ts) (sym (append_assoc (ledger ed us) (ledgers ed es) (ledger ed ts)))

ledgers_nil : (ed : Edition) → ledgers ed [] ≡ []
unfolding ledgers
ledgers_nil ed = refl

-- a description that was gone through to its end
pub went_got : {body out out' : List ℕ} {s : Syntax} {ed : Edition} {at place a p : ℕ} (w : Went body (outside ed) s at place out end a p out')
    → read_body (8 * length body) 0 s (drop at (bits_of body)) ≡ got w.ts (drop a (bits_of body))
unfolding read_body
went_got {body} {a = a} w = w.reads ∙ pushes_got w.ts (drop a (bits_of body))

-- ---- the loop

-- `count` entries are written, and those from the place on are not
pub record Listing (ed : Edition) (body : List ℕ) (table : ListTable) (start place : ℕ) (out₀ : List ℕ) (at there count : ℕ) (out : List ℕ) : Type 0 where
  pub es : List (List Field)
  pub walked : entries_at body (list_id table) start ≡ ahead es (entries_in body (list_id table) (8 * length body - start - count) at)
  pub aligned : at % 8 ≡ 0
  pub number : count ≡ length es
  pub here : there ≡ place + 2 + length (ledgers ed es)
  pub bytes : there ≤ length out₀ → out ≡ splice out₀ (place + 2) (ledgers ed es)
  pub long : length out ≡ length out₀
  pub placed : Placed body at there
  pub few : start + count ≤ at

pub begin : {ed : Edition} {body out : List ℕ} {table : ListTable} {start place : ℕ} → Placed body start (place + 2) → start % 8 ≡ 0 → Listing ed body table start place out start (place + 2) 0 out
begin {ed} {body} {out} {table} {start} {place} p a =
    let turns : length (drop start (bits_of body)) ≡ 8 * length body - start - 0 = omega (arith, rest_at body start) in
    record {
      es = [];
      walked = rw (turns) (ahead_none (entries_in body (list_id table) (8 * length body - start - 0) start));
      aligned = a;
      number = refl;
      here = omega (arith, ap length (ledgers_nil ed));
      bytes = λ _. sym (rw (ledgers_nil ed) (splice_nil out (place + 2)));
      long = refl;
      placed = p;
      few = omega arith;
    }

module _ {ed : Edition} {body out₀ out : List ℕ} {table : ListTable} {start place at there count : ℕ} (st : Listing ed body table start place out₀ at there count out) where
  abbrev n : ℕ
  n = 8 * length body

  abbrev id : ℕ
  id = list_id table

  left_turns : least_bits id ≤ n - at → n - start - count ≡ suc (n - start - (count + 1))
  left_turns h = omega (arith, st.few, st.placed.within, byte_entry table)

  pub turn : {out' : List ℕ} {a p : ℕ} → Went body (outside ed) (entry_syntax id) at there out end a p out' → least_bits id ≤ n - at → (at < a) × Listing ed body table start place out₀ a p (count + 1) out'
  turn {out'} {a} w h =
      let e = place_at body a w.within in
      let x = walk-laws.ended (least_bits id) (entry_syntax id) (fine_entry table) (least_entry table) (byte_entry table) body at w.ts (drop a (bits_of body)) st.placed.within st.aligned (went_got w) in
      let ll = ap length (ledgers_more ed st.es w.ts) ∙ length-append (ledgers ed st.es) (ledger ed w.ts) in
      let z = w.size in
      let p = st.placed in
      let go : at < a = omega (arith, byte_entry table, x.on, e) in (
        go,
        record {
          es = st.es ++ w.ts ∷ [];
          walked = st.walked ∙ ap (λ (k : ℕ). ahead st.es (entries_in body id k at)) (left_turns h)
              ∙ ap (ahead st.es) (turn_on (λ p us. us) (least_bits id) (entry_syntax id) body (n - start - (count + 1)) at w.ts (drop a (bits_of body)) p.within h (went_got w))
              ∙ ahead_more st.es w.ts (entries_in body id (n - start - (count + 1)) a);
          aligned = omega (arith, x.byte, e);
          number = omega (arith, st.number, length-append st.es (w.ts ∷ []));
          here = omega (arith, st.here);
          bytes = λ r. w.bytes (omega (arith, st.long)) ∙ ap (λ (m : List ℕ). splice m there (ledger ed w.ts)) (st.bytes (omega arith))
              ∙ splice_splice out₀ (place + 2) (ledgers ed st.es) (ledger ed w.ts) there st.here (omega (arith, st.here))
              ∙ ap (splice out₀ (place + 2)) (sym (ledgers_more ed st.es w.ts));
          long = w.long ∙ st.long;
          placed = record { short = p.short; within = w.within; behind = omega (arith, w.slack, p.behind) };
          few = omega (arith, st.few, go);
        },
      )

  pub stop : {f : Refusal} → Stopped body (outside ed) (entry_syntax id) at f → least_bits id ≤ n - at → Faulty body id start f
  stop {f} w h = record {
    reads = st.walked ∙ ap (λ (k : ℕ). ahead st.es (entries_in body id k at)) (left_turns h)
        ∙ ap (ahead st.es) (turn_no (λ p us. us) (least_bits id) (entry_syntax id) body (n - start - (count + 1)) at f.fault f.need f.have h w.reads);
  }

  -- no entry is left, and the count is put in front
  pub ended : {out' : List ℕ} → n - at < least_bits id → out' ≡ stored out place (digits 256 2 count) → Wrote ed body id start place out₀ there out'
  ended {out'} h b =
      let d : List ℕ = digits 256 2 (length st.es) in
      let ld : length d ≡ 2 = length_digits 256 2 (length st.es) in
      let ll = length-append d (ledgers ed st.es) in
      let p = st.placed in
      let z = st.here in
      record {
        es = st.es;
        rest = drop at (bits_of body);
        reads = st.walked ∙ ap (ahead st.es) (turn_end (λ p us. us) (least_bits id) (entry_syntax id) body (n - start - count) at h) ∙ ap (λ (k : List (List Field)). got k (drop at (bits_of body))) (append-nil st.es);
        size = omega arith;
        bytes = λ r. b ∙ digits_fit out place 2 count (omega (arith, st.long)) ∙ ap (λ (k : ℕ). splice out place (digits 256 2 k)) st.number
            ∙ ap (λ (m : List ℕ). splice m place d) (st.bytes r)
            ∙ splice_front out₀ d (ledgers ed st.es) place (place + 2) (omega arith) (omega arith);
        behind = omega (arith, p.behind, p.within);
      }
