-- What a field is, by its mark.
-- Assumes nothing.
use Prim.Native.Nat.{ℕ, zero, suc, ◌+◌, ◌-◌, ◌*◌, ◌%◌, ◌^◌, ◌≤◌, ◌<◌}
use mathlib.Core.Path.{◌≡◌, refl, sym}
use mathlib.Core.Bool.{Bool, true, false, cond, ◌&&◌, ◌||◌}
use mathlib.Core.List.{List, [], ◌∷◌}
use native.Mathlib.Omega.{arith}
use Rattle.std.proofs.Common.{Some, None}
use Rattle.std.proofs.lemmas.Bool.{cond_both}
use Rattle.std.proofs.lemmas.Nat.{one_shl}
use Rattle.std.proofs.lemmas.Option.{cond_some}
use lib.Dec.{T, leb, ltb, eqb, leb→le, le→leb}
use lib.ListN.{length, get_or}
use lib.Pow.{pow_mono}
use borrow.Author.Tests.{le-leb, lt-leb, le-ltb, lt-ltb, ltb-true, leb-true, leb-false, eq-eqb, eqb-true, eqb-false, ne_eqb}
use Rattle.format.specs.Syntax.{Sign, unsigned, signed}
use Rattle.format.specs.Ledger.{size}
use Rattle.format.proofs.Good.{widest}
use Rattle.runs.specs.Lines.{ext, sign_of, width_of, size_of, shown_of, ext_of, size_for, mark_ok, marks_ok}

-- at least one bit and byte, at most 64 bits and 8 bytes; no more bytes than bits, and room for the bits
pub record MarkFacts (c : ℕ) : Type 0 where
  pub some : 1 ≤ width_of c
  pub most : width_of c ≤ 64
  pub one : 1 ≤ size_of c
  pub eight : size_of c ≤ 8
  pub less : size_of c ≤ width_of c
  pub room : width_of c ≤ 8 * size_of c
  pub ledger : T (leb (width_of c) (widest (sign_of c)))

both : (a b : Bool) → T (a && b) → T a × T b
both true b h = (tt, h)
both false b h = absurd h

abbrev Sized : ℕ → ℕ → Type 0
Sized w n = (1 ≤ n) × (n ≤ 8) × (n ≤ w) × (w ≤ 8 * n)

sizes : (w : ℕ) → 1 ≤ w → w ≤ 64 → Sized w (size unsigned w)
sizes w h m =
    cond_both (leb w 8) 1 _ (Sized w) (λ p. omega (arith, leb-true w 8 p))
    (λ p. cond_both (leb w 16) 2 _ (Sized w) (λ q. omega (arith, leb-false w 8 p, leb-true w 16 q))
    (λ q. cond_both (leb w 32) 4 8 (Sized w) (λ r. omega (arith, leb-false w 16 q, leb-true w 32 r)) (λ r. omega (arith, leb-false w 32 r))))

abbrev Facts : Sign → ℕ → Type 0
Facts g w = (1 ≤ w) × (w ≤ 64) × Sized w (size g w) × T (leb w (widest g))

pub mark_facts : (c : ℕ) → T (mark_ok c) → MarkFacts c
unfolding sign_of width_of size_of
mark_facts c h =
    let f = go (ltb c 128) h in
    record { some = f.0; most = f.1; one = f.2.0; eight = f.2.1; less = f.2.2; room = f.2.3; ledger = f.3 }
  where
    above : (t : Bool) → eqb c ext ≡ t → 132 ≤ c → c ≤ 160 → Facts (cond t unsigned signed) (c - 128)
    above true e p q = rw (eqb-true c ext e) (omega arith, omega arith, omega arith, tt)
    above false e p q = (omega arith, omega arith, omega arith, le→leb (c - 128) 32 (omega arith))

    go : (t : Bool) → T (cond t (leb 1 c && leb c 64) (leb 132 c && leb c 160)) → Facts (cond (t || eqb c ext) unsigned signed) (cond t c (c - 128))
    go true h =
        let z = both (leb 1 c) (leb c 64) h in
        (leb→le 1 c z.0, leb→le c 64 z.1, sizes c (leb→le 1 c z.0) (leb→le c 64 z.1), z.1)
    go false h =
        let z = both (leb 132 c) (leb c 160) h in
        above (eqb c ext) refl (leb→le 132 c z.0) (leb→le c 160 z.1)

-- the powers of a field whose mark is not below 128, as the machine makes them
pub record Powers (c : ℕ) : Type 0 where
  pub most : c - 128 ≤ 32
  pub some : 4 ≤ c - 128
  pub whole : 1 * 2 ^ (c - 128) % 2 ^ 64 ≡ 2 ^ (c - 128)
  pub half : 1 * 2 ^ (c - 128 - 1) % 2 ^ 64 ≡ 2 ^ (c - 128 - 1)
  pub small : 2 ^ (c - 128) ≤ 2 ^ 32
  pub width : width_of c ≡ c - 128

pub powers : (c : ℕ) → T (mark_ok c) → 128 ≤ c → Powers c
unfolding width_of
powers c h m = go (ltb c 128) refl h
  where
    go : (t : Bool) → ltb c 128 ≡ t → T (cond t (leb 1 c && leb c 64) (leb 132 c && leb c 160)) → Powers c
    go true e h = absurd (omega (arith, ltb-true c 128 e))
    go false e h =
        let z = both (leb 132 c) (leb c 160) h in
        let p : 132 ≤ c = leb→le 132 c z.0 in
        let q : c ≤ 160 = leb→le c 160 z.1 in
        let l : c - 128 ≤ 32 = omega arith in
        record {
          most = l;
          some = omega arith;
          whole = one_shl (c - 128) 64 (omega arith);
          half = one_shl (c - 128 - 1) 64 (omega arith);
          small = pow_mono l;
          width = rw (le-ltb c 128 m);
        }

-- an extension's mark is not below 128
pub not_ext : {c : ℕ} → c < 128 → c ≡ ext → ⊥
not_ext h e = omega arith

pub marks_at : (cs : List ℕ) (i : ℕ) → T (marks_ok cs) → i < length cs → T (mark_ok (get_or cs i 0))
marks_at [] i h l = absurd (omega arith)
marks_at (c ∷ cs) zero h l = (both (mark_ok c) (marks_ok cs) h).0
marks_at (c ∷ cs) (suc i) h l = marks_at cs i (both (mark_ok c) (marks_ok cs) h).1 (omega arith)

-- a field's bytes and its number there, by its kind
pub size_signed : (c : ℕ) → 128 ≤ c → (c ≡ ext → ⊥) → size_of c ≡ 4
unfolding size_of sign_of
size_signed c h n = rw (le-ltb c 128 h, ne_eqb c ext n)

pub size_ext : (c : ℕ) → c ≡ ext → size_of c ≡ 2
unfolding size_of sign_of width_of
size_ext c h = rw h

pub size_unsigned : (c : ℕ) → c < 128 → size_of c ≡ cond (leb c 8) 1 (cond (leb c 16) 2 (cond (leb c 32) 4 8))
unfolding size_of sign_of width_of
size_unsigned c h = rw (lt-ltb c 128 h)

pub shown_signed : (c v : ℕ) → 128 ≤ c → (c ≡ ext → ⊥) → shown_of c v ≡ cond (ltb v (2 ^ (c - 128 - 1))) v (v + (2 ^ 32 - 2 ^ (c - 128)))
unfolding shown_of sign_of width_of
shown_signed c v h n = rw (le-ltb c 128 h, ne_eqb c ext n)

pub shown_unsigned : (c v : ℕ) → c < 128 → shown_of c v ≡ v
unfolding shown_of sign_of width_of
shown_unsigned c v h = rw (lt-ltb c 128 h)

pub shown_ext : (c v : ℕ) → c ≡ ext → shown_of c v ≡ v
unfolding shown_of sign_of width_of
shown_ext c v h = rw h

-- a number without the top bit stands as it is, signed or not
pub shown_low : (c v : ℕ) → 128 ≤ c → v < 2 ^ (c - 128 - 1) → shown_of c v ≡ v
shown_low c v h l = go (eqb c ext) refl
  where
    go : (t : Bool) → eqb c ext ≡ t → shown_of c v ≡ v
    go true e = shown_ext c v (eqb-true c ext e)
    go false e = rw (shown_signed c v h (eqb-false c ext e), lt-ltb v (2 ^ (c - 128 - 1)) l)

-- ---- the bytes of a field that is tested

-- a field that is none, or an extension that is not above 299: its bytes
pub plain_size : (c v : ℕ) → (c ≡ ext → ⊥) → size_for c v ≡ Some (size_of c)
unfolding size_for
plain_size c v n = rw (ne_eqb c ext n)

pub small_size : (c v : ℕ) → v ≤ 299 → size_for c v ≡ Some (size_of c)
unfolding size_for
small_size c v l = go (eqb c ext)
  where
    go : (t : Bool) → cond (leb (cond t v 0) 299) (Some (size_of c)) None ≡ Some (size_of c)
    go true = rw (le-leb v 299 l)
    go false = refl

-- and else none
pub no_size : (c v : ℕ) → c ≡ ext → 299 < v → size_for c v ≡ None
unfolding size_for
no_size c v h l = rw (eq-eqb c ext h, lt-leb v 299 l)

-- what the bytes tell: none that the number is refused, and is an extension; some that it passes
pub sized_no : (c v : ℕ) → None ≡ size_for c v → (299 < ext_of c v) × (ext_of c v ≡ v)
unfolding size_for
sized_no c v e = go (leb (ext_of c v) 299) refl e
  where
    is : (t : Bool) → 299 < cond t v 0 → cond t v 0 ≡ v
    is true h = refl
    is false h = absurd (omega (arith, h))

    go : (t : Bool) → leb (ext_of c v) 299 ≡ t → None ≡ cond t (Some (size_of c)) None → (299 < ext_of c v) × (ext_of c v ≡ v)
    go true l r = absurd (cc)
    go false l r = let h : 299 < ext_of c v = leb-false (ext_of c v) 299 l in (h, is (eqb c ext) h)

pub sized_yes : (c v : ℕ) {z : ℕ} → Some z ≡ size_for c v → (ext_of c v ≤ 299) × (z ≡ size_of c)
unfolding size_for
sized_yes c v {z} e =
    let q = cond_some (leb (ext_of c v) 299) (size_of c) z (sym e) in
    (leb-true (ext_of c v) 299 q.0, sym q.1)
