-- A ledger is refused by one of the numbers from 23 to 28, so that the others tell of what is done with it.
-- Assumes nothing.
use mathlib.Core.Bool.{Bool, true, false, cond, ◌&&◌}
use mathlib.Core.List.{List, [], ◌∷◌}
use Prim.Native.Nat.{ℕ, zero, suc, ◌-◌, ◌%◌, ◌^◌, ◌≤◌}
use native.Mathlib.Omega.{arith}
use lib.Dec.{leb, eqb}
use lib.ListN.{length, take, drop}
use Rattle.format.specs.Digits.{value, bits_of}
use Rattle.format.specs.Refusals.{fault_number}
use Rattle.format.specs.Syntax.{Name, Syntax, end, field, when, need, at_most, slots, plan, raw, Field, num, flags, bytes, Parse, got, refused, and_then, push}
use Rattle.format.specs.declared.Edition.{Edition}
use Rattle.format.specs.declared.Edition.TheVariants.{First, Second}
use Rattle.format.specs.declared.Fault.TheVariants.{LedgerMisfit, VersionUnknown, ValueMisfit, RestoredTooLong, PlanLengthMisfit}
use Rattle.format.specs.Body.{wholes, planned}
use Rattle.format.specs.Ledger.{size, widened, grant, read_counted_bytes, leaves, read_filler, read_ledger}
use Rattle.format.specs.Whole.{Layout, sole, many, opaque, layout, Table, one, list, body_of, counted, ended, content_as, sized, version_of, id_of, known, edition_of, ledger_read}

-- refused, if at all, as a ledger is
abbrev pub AsLedger : {A : Type 0} → Parse A → Type 0
AsLedger (got a rest) = Unit {0}
AsLedger (refused fault needed had) = (23 ≤ fault_number fault) × (fault_number fault ≤ 28)

-- ---- steps

own_then : {A B : Type 0} (p : Parse A) (k : A → List ℕ → Parse B) → AsLedger p
    → ((a : A) (rest : List ℕ) → AsLedger (k a rest)) → AsLedger (and_then p k)
own_then (got a rest) k h g = g a rest
own_then (refused x y z) k h g = h

own_cond : {A : Type 0} (t : Bool) (p q : Parse A) → AsLedger p → AsLedger q → AsLedger (cond t p q)
own_cond true p q h g = h
own_cond false p q h g = g

own_grant : {A : Type 0} (n q : ℕ) (t : Bool) (bs : List ℕ) (p : Parse A) → AsLedger p → AsLedger (grant n q t bs p)
own_grant n q t bs p h =
    own_cond
    (leb q (length bs)) (cond t p (refused ValueMisfit (n - length bs) 0)) (refused LedgerMisfit (n - length bs) 0)
    (own_cond t p (refused ValueMisfit (n - length bs) 0) h (omega arith, omega arith))
    (omega arith, omega arith)

own_push : {A : Type 0} (x : A) (p : Parse (List A)) → AsLedger p → AsLedger (push x p)
own_push x p h = own_then p _ h (λ _ _. tt)

own_bytes : (n : ℕ) (bs : List ℕ) (k : List ℕ → List ℕ → Parse (List Field))
    → ((xs rest : List ℕ) → AsLedger (k xs rest)) → AsLedger (read_counted_bytes n bs k)
own_bytes n bs k h =
    let q : ℕ = value 256 (take 2 bs) in
    let after : List ℕ = drop 2 bs in
    let more : Parse (List Field) = k (bits_of (take q after)) (drop q after) in
    own_grant n 2 true bs (grant n q true after more)
    (own_grant n q true after more (h (bits_of (take q after)) (drop q after)))

own_filler : (last : Bool) (n : ℕ) (nm : Name) (v : ℕ) (ts : List Field) (bs : List ℕ)
    → AsLedger (read_filler last n nm v ts bs)
own_filler last n nm v ts bs =
    own_bytes n bs _ (λ fs rest.
    own_cond (leaves last v ts (length fs)) (got (planned nm v ts fs) rest)
    (refused PlanLengthMisfit (n - length (drop 2 bs)) 0)
    tt (omega arith, omega arith))

-- ---- an entry, entries, a content, a ledger

own_entry : (ed : Edition) (last : Bool) (n : ℕ) (s : Syntax) (bs : List ℕ) → AsLedger (read_ledger ed last n s bs)
unfolding read_ledger
own_entry ed last n end bs = tt
own_entry ed last n (field g nm w k) bs =
    let x : ℕ = value 256 (take (size g w) bs) in
    let v : ℕ = x % 2 ^ w in
    let p : Parse (List Field) = read_ledger ed last n (k v) (drop (size g w) bs) in
    own_grant n (size g w) (eqb (widened g w v) x) bs (push (num g nm w v) p)
    (own_push (num g nm w v) p (own_entry ed last n (k v) (drop (size g w) bs)))
own_entry ed last n (when true k l) bs = own_entry ed last n k bs
own_entry ed last n (when false k l) bs = own_entry ed last n l bs
own_entry ed last n (need a w k) bs = own_entry ed last n k bs
own_entry ed last n (at_most a v m k) bs = own_entry ed last n k bs
own_entry ed last n (slots nm a m k) bs =
    let packed : List ℕ = bits_of (take (wholes m) bs) in
    let p : Parse (List Field) = read_ledger ed last n k (drop (wholes m) bs) in
    own_grant n (wholes m) (eqb (value 2 (drop m packed)) 0) bs (push (flags nm (take m packed)) p)
    (own_push (flags nm (take m packed)) p (own_entry ed last n k (drop (wholes m) bs)))
own_entry First last n (plan nm k) bs =
    own_then (read_ledger First last n k bs) _ (own_entry First last n k bs) (λ _ _. tt)
own_entry Second last n (plan nm k) bs =
    let x : ℕ = value 256 (take 2 bs) in
    let v : ℕ = x % 2 ^ 12 in
    let p : Parse (List Field) = read_ledger Second last n k (drop 2 bs) in
    own_grant n 2 (eqb v x) bs (and_then p (λ ts rest. read_filler last n nm v ts rest))
    (own_then p (λ ts rest. read_filler last n nm v ts rest) (own_entry Second last n k (drop 2 bs))
    (λ ts rest. own_filler last n nm v ts rest))
own_entry ed last n (raw nm) bs = own_bytes n bs (λ xs rest. got (bytes nm xs ∷ []) rest) (λ _ _. tt)

own_entries : (ed : Edition) (n : ℕ) (s : Syntax) (c : ℕ) (bs : List ℕ) → AsLedger (counted ed n s c bs)
unfolding counted
own_entries ed n s zero bs = tt
own_entries ed n s (suc c) bs =
    own_then
    (read_ledger ed (eqb c 0) n s bs) (λ ts rest. push ts (counted ed n s c rest)) (own_entry ed (eqb c 0) n s bs)
    (λ ts rest. own_push ts (counted ed n s c rest) (own_entries ed n s c rest))

own_ended : (n : ℕ) (p : Parse Table) → AsLedger p → AsLedger (ended n p)
own_ended n p h =
    own_then p _ h (λ t rest.
    own_cond (eqb (length rest) 0) (got t []) (refused LedgerMisfit (n - length rest) 0) tt (omega arith, omega arith))

own_content : (ed : Edition) (n : ℕ) (l : Layout) (bs : List ℕ) → AsLedger (content_as ed n l bs)
unfolding content_as
own_content ed n (sole s) bs =
    own_ended n (and_then (read_ledger ed true n s bs) (λ ts rest. got (one ts) rest))
    (own_then (read_ledger ed true n s bs) (λ ts rest. got (one ts) rest) (own_entry ed true n s bs) (λ _ _. tt))
own_content ed n (many h m s) bs =
    let es : List ℕ → Parse (List (List Field)) = λ rest. counted ed n s (value 256 (take 2 rest)) (drop 2 rest) in
    let after : List Field → List ℕ → Parse Table = λ hs rest. and_then (es rest) (λ us over. got (list hs us) over) in
    let k : List Field → List ℕ → Parse Table = λ hs rest. grant n 2 true rest (after hs rest) in
    own_ended n (and_then (read_ledger ed false n h bs) k)
    (own_then (read_ledger ed false n h bs) k (own_entry ed false n h bs) (λ hs rest.
    own_grant n 2 true rest (after hs rest)
    (own_then (es rest) (λ us over. got (list hs us) over) (own_entries ed n s (value 256 (take 2 rest)) (drop 2 rest))
    (λ _ _. tt))))
own_content ed n opaque bs = tt

own_sized : (ed : Edition) (p : Parse Table) → AsLedger p → AsLedger (sized ed p)
own_sized ed p h =
    own_then p _ h (λ t rest.
    own_cond (leb (length (body_of ed t)) 4096) (got t rest) (refused RestoredTooLong (length (body_of ed t)) 4096)
    tt (omega arith, omega arith))

-- a ledger is refused by 23 to 28
pub ledger_faults : (l : List ℕ) → AsLedger (ledger_read l)
unfolding ledger_read
ledger_faults l =
    let c : Parse Table = content_as (edition_of l) (length l) (layout (id_of l)) (drop 4 l) in
    let p : Parse Table = sized (edition_of l) c in
    own_cond
    (leb 4 (length l) && eqb (value 256 (take 2 l)) (length l - 2))
    (cond (known (version_of l)) p (refused VersionUnknown 2 0)) (refused LedgerMisfit 0 0)
    (own_cond (known (version_of l)) p (refused VersionUnknown 2 0)
    (own_sized (edition_of l) c (own_content (edition_of l) (length l) (layout (id_of l)) (drop 4 l)))
    (omega arith, omega arith))
    (omega arith, omega arith)
