-- A body's reading and the one before extensions were tested: they end alike, or now an extension above 299 is refused.
-- Assumes nothing.
use mathlib.Core.Path.{◌≡◌, refl}
use mathlib.Core.Bool.{Bool, true, false, cond}
use mathlib.Core.List.{List, ◌∷◌}
use Prim.Native.Nat.{ℕ, zero, suc, ◌+◌, ◌*◌, ◌-◌, ◌<◌}
use lib.Dec.{leb}
use lib.ListN.{length, take, drop}
use borrow.Author.Tests.{leb-false}
use Rattle.std.proofs.lemmas.Bool.{cond_both}
use Rattle.format.specs.declared.Fault.{Fault}
use Rattle.format.specs.Digits.{value, bits_of}
use Rattle.format.specs.Syntax.{Syntax, end, field, when, need, at_most, slots, plan, raw, before, Field, num, flags, Parse, got, refused, and_then, push}
use Rattle.format.specs.Body.{wholes, read_body}
use Rattle.format.specs.Ledger.{size}
use Rattle.format.specs.Whole.{Layout, sole, many, opaque, layout_before, walk, entries, read_as, body_read_as}
use Rattle.format.specs.declared.Fault.TheVariants.{BodyTooLong, ExtensionTooLarge}
use Rattle.format.proofs.Good.{Fine}
use Rattle.format.proofs.TableLaws.{FineLayout}

pub data Tested {A : Type 0} : Parse A → Parse A → Type 0 where
  alike : {p : Parse A} → Tested p p
  above : {q : Parse A} {v : ℕ} → 299 < v → Tested (refused ExtensionTooLarge v 299) q

-- what is read now was read before
pub tested_got : {A : Type 0} {p q : Parse A} {a : A} {rest : List ℕ} → Tested p q → p ≡ got a rest → q ≡ got a rest
tested_got alike e = e
tested_got (above h) e = absurd cc

-- what was read before is read now, but for an extension
pub data Still {A : Type 0} (p : Parse A) (a : A) (rest : List ℕ) : Type 0 where
  still : p ≡ got a rest → Still p a rest
  refuses : (v : ℕ) → 299 < v → p ≡ refused ExtensionTooLarge v 299 → Still p a rest

pub tested_still : {A : Type 0} {p q : Parse A} {a : A} {rest : List ℕ} → Tested p q → q ≡ got a rest → Still p a rest
tested_still alike e = still e
tested_still (above {v = v} h) e = refuses v h refl

module _ {A : Type 0} where
  tested_cond : (t : Bool) (p q r : Parse A) → Tested p q → Tested (cond t p r) (cond t q r)
  tested_cond true p q r x = x
  tested_cond false p q r x = alike

  tested_then : {B : Type 0} (p q : Parse A) (k k' : A → List ℕ → Parse B) → Tested p q → ((a : A) (rest : List ℕ) → Tested (k a rest) (k' a rest)) → Tested (and_then p k) (and_then q k')
  tested_then p q k k' (alike {p = got a rest}) f = f a rest
  tested_then p q k k' (alike {p = refused x y z}) f = alike
  tested_then p q k k' (above h) f = above h

tested_push : {A : Type 0} (x : A) (p q : Parse (List A)) → Tested p q → Tested (push x p) (push x q)
tested_push x p q h = tested_then p q (λ xs rest. got (x ∷ xs) rest) (λ xs rest. got (x ∷ xs) rest) h (λ _ _. alike)

tested_most : (a : Fault) (v m : ℕ) (p q : Parse (List Field)) → a ≡ ExtensionTooLarge → m ≡ 299 → Tested p q → Tested (cond (leb v m) p (refused a v m)) q
tested_most a v m p q e d x = cond_both (leb v m) p (refused a v m) (λ (y : Parse (List Field)). Tested y q) (λ _. x) (λ l. rw (e, d) (above (rw d at (leb-false v m l))))

tested_body : (i : Bool) (b c n e : ℕ) (s : Syntax) (bs : List ℕ) → Fine i b c s → Tested (read_body n e s bs) (read_body n e (before s) bs)
unfolding read_body
tested_body i b c n e end bs f = alike
tested_body i b c n e (field g nm w k) bs f =
    let v : ℕ = value 2 (take w bs) in
    tested_cond (leb w (length bs)) _ _ _ (tested_push (num g nm w v) _ _ (tested_body i (b + w) (c + size g w) n e (k v) (drop w bs) (f.1 v)))
tested_body i b c n e (when true k l) bs f = tested_body i b c n e k bs f.0
tested_body i b c n e (when false k l) bs f = tested_body i b c n e l bs f.1
tested_body i b c n e (need a w k) bs f = tested_cond (leb w (length bs)) _ _ _ (tested_body i b c n e k bs f.1)
tested_body i b c n e (at_most a v m k) bs f = tested_most a v m _ _ f.0 f.1 (tested_body i b c n e k bs f.2)
tested_body i b c n e (slots nm a m k) bs f =
    tested_cond (leb m (length bs)) _ _ _ (tested_push (flags nm (take m bs)) _ _ (tested_body i b c n e k (drop (8 * wholes m) bs) f.1))
tested_body i b c n e (plan nm k) bs f =
    let v : ℕ = value 2 (take 12 bs) in
    let e' : ℕ = n - length (drop 12 bs) + 8 * v in
    let x : Tested (read_body n e' k (drop 12 bs)) (read_body n e' (before k) (drop 12 bs)) = tested_body true (b + 12) (c + 4) n e' k (drop 12 bs) f.2 in
    tested_cond (leb 12 (length bs)) _ _ _ (tested_then _ _ _ _ x (λ ts rest. alike))
tested_body i b c n e (raw nm) bs f = alike

tested_entries : (n m : ℕ) (s : Syntax) (turns : ℕ) (bs : List ℕ) → Fine false 0 0 s → Tested (entries n m s turns bs) (entries n m (before s) turns bs)
unfolding walk
tested_entries n m s zero bs f = alike
tested_entries n m s (suc turns) bs f =
    tested_cond (leb m (length bs)) _ _ _ (tested_then _ _ _ _ (tested_body false 0 0 n 0 s bs f) (λ ts rest. tested_push ts _ _ (tested_entries n m s turns rest f)))

tested_as : (l : Layout) (b : List ℕ) → FineLayout l → Tested (read_as l b) (read_as (layout_before l) b)
unfolding read_as
tested_as (sole s) b f = tested_then _ _ _ _ (tested_body false 0 0 (8 * length b) 0 s (bits_of b) f) (λ _ _. alike)
tested_as (many h m s) b f =
    let n : ℕ = 8 * length b in
    tested_then _ _ _ _ (tested_body false 0 0 n 0 h (bits_of b) f.0)
    (λ hs rest. tested_then _ _ _ _ (tested_entries n m s (length rest) rest f.1) (λ _ _. alike))
tested_as opaque b f = alike

pub tested_read : (l : Layout) (b : List ℕ) → FineLayout l → Tested (body_read_as l b) (body_read_as (layout_before l) b)
unfolding body_read_as
tested_read l b f = tested_cond (leb (length b) 4096) (read_as l b) (read_as (layout_before l) b) (refused BodyTooLong (length b) 4096) (tested_as l b f)
