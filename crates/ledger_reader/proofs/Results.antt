-- What a call answers and leaves, by its result's measure and the steps that lay it: for the calls that make a ledger
-- of a ledger.
-- Assumes nothing.
use Prim.Native.Nat.{ℕ, ◌+◌, ◌-◌, ◌≤◌}
use mathlib.Core.Path.{◌≡◌, refl, sym, ap, ap₂, ◌∙◌, subst}
use mathlib.Core.List.{List, [], ◌∷◌, ◌++◌}
use native.Mathlib.Omega.{arith}
use lib.ListN.{length, length-append}
use borrow.Author.Tests.{le-leb}
use Rattle.std.specs.Prelude.{Result, Ok, Err}
use Rattle.format.specs.Digits.{digits, Below}
use Rattle.format.specs.declared.Fault.{Fault}
use Rattle.format.specs.Syntax.{Parse, got, refused, and_then}
use Rattle.format.specs.declared.Edition.{Edition}
use Rattle.format.specs.declared.Output.{Output}
use Rattle.format.specs.declared.Refusal.{Refusal}
use Rattle.format.specs.Whole.{Table, body_of, version, id_of, edition_of, ledger_read}
use Rattle.format.specs.Calls.{done, answer, Fitted, left, restored}
use Rattle.format.proofs.DigitLaws.{length_digits}
use Rattle.format.proofs.CallLaws.{answer_done, answer_refused}
use Rattle.format.proofs.ParseLaws.{got_not_refused}
use Rattle.format.proofs.ConvertLaws.{read_framed}
use Rattle.runs.specs.Appended.{AppendedAt, LedgerLaid}
use Rattle.runs.proofs.Appends.{also, named}
use Rattle.ledger_reader.specs.declared.Measured.{Measured}
use Rattle.ledger_reader.specs.Measured.{measured, measure_of}
use Rattle.ledger_reader.specs.Makes.{ReadAs, Makes}
use Rattle.ledger_reader.proofs.Reading.{has_size}

-- a ledger that has a measure is read
pub read_as_lem : {l : List ℕ} {m : Measured} → Below 256 l → m.edition ≡ edition_of l → Ok m.output ≡ measure_of l
    → ReadAs m.edition m.output.table_id l
read_as_lem {l} {m} b e o =
    let s = has_size o in
    let f = read_framed l s.table [] b s.reads in
    record { table = s.table; reads = s.reads; edition = e; named = s.same; four = f.0; short = f.1 }

-- ---- what a call makes of a ledger, p

-- of a ledger that is refused, where its own faults come first
pub unread : {l : List ℕ} {f : Refusal} {p : Parse (List ℕ)} {r : Result Measured Refusal}
    → ((a : Fault) (b c : ℕ) → ledger_read l ≡ refused a b c → p ≡ refused a b c)
    → r ≡ Err f → Err f ≡ measure_of l → Makes l p r
unfolding measure_of restored
unread {l} {f} {p} own q e = rw q (record { to = go (ledger_read l) refl e })
  where
    go : (t : Parse Table) → ledger_read l ≡ t
        → Err f ≡ measured (id_of l) (and_then t (λ u rest. got (body_of (edition_of l) u) []))
        → Err f ≡ measured (id_of l) p
    go (got t rest) k z = absurd cc
    go (refused x y w) k z = z ∙ sym (ap (measured (id_of l)) (own x y w k))

-- of one that is read, where p is refused
pub lost : {l : List ℕ} {f : Refusal} {p : Parse (List ℕ)} {r : Result Measured Refusal} → r ≡ Err f
    → p ≡ refused f.fault f.need f.have → Makes l p r
lost {l} q e = rw q (record { to = sym (ap (measured (id_of l)) e) })

-- and where it is laid
pub makes : {ed : Edition} {l : List ℕ} {n : ℕ} {p : Parse (List ℕ)} {out out' : List ℕ} (m : Measured)
    → ReadAs m.edition m.output.table_id l → LedgerLaid ed (id_of l) p out out' n
    → Makes l p (Ok (record { edition = m.edition; output = record { table_id = m.output.table_id; length = n } }))
makes {ed} {l} {n} m w x =
    let d : List ℕ = digits 256 2 (length x.content + 2) in
    let k : length (d ++ (version ed ∷ id_of l ∷ x.content)) ≡ n =
    omega (
      arith,
      length-append d (version ed ∷ id_of l ∷ x.content),
      length_digits 256 2 (length x.content + 2),
      x.appended.size,
    ) in
    record { to = (w, ap₂ done w.named (sym k) ∙ sym (ap (measured (id_of l)) x.is)) }

-- ---- a result p under an id

-- a measure that is a refusal
pub refuses : {f : Refusal} {r : Result Output Refusal} (id : ℕ) (out : List ℕ) (p : Parse (List ℕ)) → r ≡ Err f
    → Err f ≡ measured id p → (r ≡ answer id (length out) p) × (out ≡ left out p)
unfolding answer left
refuses id out (got xs rest) q e = absurd cc
refuses id out (refused x y w) q e = (q ∙ e, refl)

-- or a result of some length
pub record Sized (id : ℕ) (p : Parse (List ℕ)) (o : Output) : Type 0 where
  pub xs : List ℕ
  pub rest : List ℕ
  pub is : p ≡ got xs rest
  pub size : o.length ≡ length xs
  pub named : o.table_id ≡ id

pub sized : {o : Output} (id : ℕ) (p : Parse (List ℕ)) → Ok o ≡ measured id p → Sized id p o
sized id (got xs rest) e = record { xs = xs; rest = rest; is = refl; size = cc; named = cc }
sized id (refused x y w) e = absurd cc

-- what the test of the buffer's length gives is the call's answer
fits : {o : Output} {a : Result Output Refusal} (id : ℕ) (out : List ℕ) (p : Parse (List ℕ)) → Ok o ≡ measured id p
    → Fitted o.table_id o.length (length out) a → a ≡ answer id (length out) p
fits id out p e fit =
    let s = sized id p e in
    fit.is s.xs s.rest s.size ∙ ap₂ (λ (j : ℕ) (q : Parse (List ℕ)). answer j (length out) q) s.named (sym s.is)

pub short : {o : Output} {f : Refusal} {r : Result Output Refusal} (id : ℕ) (out : List ℕ) (p : Parse (List ℕ))
    → r ≡ Err f → Ok o ≡ measured id p → Fitted o.table_id o.length (length out) (Err f)
    → (r ≡ answer id (length out) p) × (out ≡ left out p)
short id out p q e fit = let z = fits id out p e fit in (q ∙ z, sym (answer_refused id out p (sym z)))

-- a result that is stored: its length, and room for it
record Room (id : ℕ) (out : List ℕ) (p : Parse (List ℕ)) (o : Output) : Type 0 where
  xs : List ℕ
  rest : List ℕ
  is : p ≡ got xs rest
  size : o.length ≡ length xs
  room : o.length ≤ length out
  answers : Ok o ≡ answer id (length out) p

room_for : {m o : Output} (id : ℕ) (out : List ℕ) (p : Parse (List ℕ)) → Ok m ≡ measured id p
    → Fitted m.table_id m.length (length out) (Ok o) → Room id out p o
room_for id out p e fit =
    let z = fits id out p e fit in
    let d = answer_done id (length out) p (sym z) in
    record { xs = d.0; rest = d.1; is = d.2; size = sym d.3; room = d.4; answers = z }

one_result : {p : Parse (List ℕ)} {xs rest ys : List ℕ} → p ≡ got xs rest → p ≡ got ys [] → xs ≡ ys
one_result {xs = xs} {rest} {ys} e d = let z : got xs rest ≡ got ys [] = sym e ∙ d in cc

module _ {m o : Output} (id : ℕ) (out : List ℕ) (p : Parse (List ℕ)) (e : Ok m ≡ measured id p)
    (fit : Fitted m.table_id m.length (length out) (Ok o)) where
  -- what went through with no buffer goes through with one
  pub never : {f : Refusal} {A : Type 0} → p ≡ refused f.fault f.need f.have → A
  never q = let r = room_for id out p e fit in absurd (got_not_refused (sym r.is ∙ q))

  -- a ledger has its first four bytes
  pub four : (ed : Edition) (c : List ℕ) → p ≡ got (digits 256 2 (length c + 2) ++ (version ed ∷ id ∷ c)) []
      → 4 ≤ o.length
  four ed c q =
      let r = room_for id out p e fit in
      let d : List ℕ = digits 256 2 (length c + 2) in
      omega (
        arith,
        r.size,
        ap length (one_result r.is q),
        length-append d (version ed ∷ id ∷ c),
        length_digits 256 2 (length c + 2),
      )

  -- the front is laid, and the content behind it
  pub stored : {ed : Edition} {out₁ out₂ out₃ : List ℕ} {i j n v k : ℕ}
      → AppendedAt (digits 256 2 (o.length - 2)) 0 out out₁ i → AppendedAt (v ∷ k ∷ []) i out₁ out₂ j
      → LedgerLaid ed id p out₂ out₃ n → v ≡ version ed → k ≡ id
      → (Ok o ≡ answer id (length out) p) × (out₃ ≡ left out p)
  unfolding left
  stored {ed} {out₂ = out₂} {out₃} {i} {j} {n} {v} {k} x y z ev ek =
      let r = room_for id out p e fit in
      let c : List ℕ = z.content in
      let d : List ℕ = digits 256 2 (length c + 2) in
      let s : r.xs ≡ d ++ (version ed ∷ id ∷ c) = one_result r.is z.is in
      let w : o.length ≡ length c + 4 = omega (
        arith,
        r.size,
        ap length s,
        length-append d (version ed ∷ id ∷ c),
        length_digits 256 2 (length c + 2),
      ) in
      let u : o.length - 2 ≡ length c + 2 = omega arith in
      let four : 4 ≡ j = omega (arith, x.size, y.size, length_digits 256 2 (o.length - 2)) in
      let content : AppendedAt c j out₂ out₃ n = subst (λ (a : ℕ). AppendedAt c a out₂ out₃ n) four z.appended in
      let same : digits 256 2 (o.length - 2)
      ++ ((v ∷ k ∷ []) ++ c) ≡ r.xs = ap (λ (b : ℕ). digits 256 2 b ++ ((v ∷ k ∷ []) ++ c)) u
      ∙ ap₂ (λ (a b : ℕ). d ++ (a ∷ b ∷ c)) ev ek ∙ sym s in
      let whole = named same (also x (also y content)) in
      let room = r.room in
      let size = r.size in
      (r.answers, rw (r.is, le-leb (length r.xs) (length out) (omega arith)) (whole.bytes (omega arith)))
