-- A part of a description in front of others: reading over it, and finding what stands behind it.
-- Assumes nothing.
use Prim.Native.Nat.{ℕ, zero, suc, ◌+◌, ◌*◌, ◌-◌, ◌%◌, ◌≤◌, ◌<◌}
use Prim.Native.String as text
use mathlib.Core.Path.{◌≡◌, refl, sym, ap, subst, ◌∙◌}
use mathlib.Core.Bool.{Bool, true, false, cond}
use mathlib.Core.List.{List, [], ◌∷◌, ◌++◌}
use native.Mathlib.Nat.{suc-mul, zero-mul}
use native.Mathlib.Omega.{arith}
use lib.Dec.{eqb}
use lib.ListN.{length}
use lib.Text.{eqt}
use Rattle.format.specs.Digits.{value_at}
use Rattle.format.specs.Refusals.{refuse}
use Rattle.format.specs.Syntax.{Name, Sign, Syntax, end, field, when, need, Field, num}
use Rattle.format.specs.Tables.{times}
use Rattle.format.specs.ByName.{name, bits_in, first_by, behind}
use Rattle.format.specs.At.{read, found_at}
use Rattle.std.specs.Prelude.{Result, Ok, Err}
use Rattle.std.specs.Int.{from_bool}
use Rattle.format.specs.declared.Refusal.{Refusal}
use Rattle.format.specs.declared.Found.{Found}
use Rattle.format.specs.declared.Fault.{Fault}
use Rattle.format.specs.declared.Fault.TheVariants.{FieldCut}
use Rattle.format.proofs.ReadLaws as laws
use Rattle.format.proofs.GroupLaws.{Line, plainly, fields, shift, shift_add, ends, stand, group_from}
use Rattle.format.proofs.ListLaws.{many, each_at, each_no, Other}

-- the lines of a stamp
abbrev pub stamp_lines : Name → List Line
stamp_lines t =
    plainly (text.◌++◌ t "_year") 8 ∷ plainly (text.◌++◌ t "_reserved_zero_future_use") 7
    ∷ plainly (text.◌++◌ t "_day") 9 ∷ plainly (text.◌++◌ t "_day_fraction") 32 ∷ []

-- ---- finding behind fields of other names

-- a way to find by a name, from a place and the fields there, that passes over a field of another name
abbrev pub Finds : {A : Type 0} → Name → (ℕ → List Field → A) → Type 0
Finds nm h = (p : ℕ) (t : Field) (ts : List Field) → eqt nm (name t) ≡ false → h p (t ∷ ts) ≡ h (p + bits_in t) ts

pub first_finds : {A : Type 0} (f : Field → A) (none : A) (nm : Name) → Finds nm (λ _ ts. first_by f none nm ts)
unfolding first_by
first_finds f none nm p t ts h = rw h

pub behind_finds : (nm : Name) → Finds nm (behind nm)
unfolding behind
behind_finds nm p t ts h = rw h

module _ {A : Type 0} (nm : Name) (h : ℕ → List Field → A) (finds : Finds nm h) where
  stand_finds : (b : List ℕ) (p o : ℕ) (ls : List Line) (ts : List Field) → Other nm ls
      → h (p + o) (stand b p o ls ++ ts) ≡ h (p + ends o ls) ts
  stand_finds b p o [] ts g = refl
  stand_finds b p o (l ∷ ls) ts g =
      let z : p + o + l.2 ≡ p + (o + l.2) = omega arith in
      finds (p + o) (num l.0 l.1 l.2 (value_at b (shift p o) l.2)) (stand b p (o + l.2) ls ++ ts) g.0
      ∙ ap (λ (k : ℕ). h k (stand b p (o + l.2) ls ++ ts)) z ∙ stand_finds b p (o + l.2) ls ts g.1

  pub group_finds : (b : List ℕ) (p : ℕ) (ls : List Line) (ts : List Field) → Other nm ls
      → h p (stand b p 0 ls ++ ts) ≡ h (p + ends 0 ls) ts
  group_finds b p ls ts g =
      let z : p ≡ p + 0 = omega arith in
      ap (λ (k : ℕ). h k (stand b p 0 ls ++ ts)) z ∙ stand_finds b p 0 ls ts g

  pub many_finds : (b : List ℕ) (p n : ℕ) (ls : List Line) (ts : List Field) → Other nm ls
      → h p (many b p n ls ts) ≡ h (p + n * ends 0 ls) ts
  unfolding many
  many_finds b p zero ls ts g =
      ap (λ (k : ℕ). h k ts) (let z : p ≡ p + zero * ends 0 ls = omega (arith, zero-mul (ends 0 ls)) in z)
  many_finds b p (suc n) ls ts g =
      let w : ℕ = ends 0 ls in
      let z : p + w + n * w ≡ p + suc n * w = omega (arith, suc-mul n w) in
      group_finds b p ls (many b (p + w) n ls ts) g ∙ many_finds b (p + w) n ls ts g ∙ ap (λ (k : ℕ). h k ts) z

-- that a name is none of the lines', by a test that computes
abbrev apart : Name → List Line → Bool
apart nm [] = true
apart nm (l ∷ ls) = cond (eqt nm l.1) false (apart nm ls)

pub others : (nm : Name) (ls : List Line) → apart nm ls ≡ true → Other nm ls
others nm [] h = tt
others nm (l ∷ ls) h = go (eqt nm l.1) refl h (λ g. others nm ls g)
  where
    go : (t : Bool) → eqt nm l.1 ≡ t → cond t false (apart nm ls) ≡ true
        → (apart nm ls ≡ true → Other nm ls) → Other nm (l ∷ ls)
    go true e g more = absurd cc
    go false e g more = (e, more g)

pub other_left : (nm : Name) (ls ks : List Line) → Other nm (ls ++ ks) → Other nm ls
other_left nm [] ks g = tt
other_left nm (l ∷ ls) ks g = (g.0, other_left nm ls ks g.1)

pub other_right : (nm : Name) (ls ks : List Line) → Other nm (ls ++ ks) → Other nm ks
other_right nm [] ks g = g
other_right nm (l ∷ ls) ks g = other_right nm ls ks g.1

-- ---- a flag and its bit, which a description tests

pub flag_tested : (x : Bool) {t : Bool} → x ≡ t → eqb (from_bool x) 1 ≡ t
flag_tested true h = h
flag_tested false h = h

pub flag_bit : (n : ℕ) → n < 2 → from_bool (eqb n 1) ≡ n
flag_bit zero h = refl
flag_bit (suc zero) h = refl
flag_bit (suc (suc n)) h = absurd (omega arith)

-- ---- reading over a part

-- the part f from p to q is all there: put gives its fields in front of others, and they have the names of ls
pub record Passed (b : List ℕ) (f : Syntax → Syntax) (ls : List Line) (p q : ℕ)
    (put : List Field → List Field) : Type 1 where
  pub over : {A : Type 0} (e : ℕ) (s : Syntax) (found : List Field → ℕ → A) (fail : Refusal → A)
      → read b e (f s) p found fail ≡ read b e s q (λ ts. found (put ts)) fail
  pub within : q ≤ 8 * length b
  pub finds : {A : Type 0} (nm : Name) (h : ℕ → List Field → A) → Finds nm h → Other nm ls
      → (ts : List Field) → h p (put ts) ≡ h q ts

-- the part f at p is refused, whatever follows it
pub record Stopped (b : List ℕ) (f : Syntax → Syntax) (p : ℕ) (r : Refusal) : Type 1 where
  pub stop : {A : Type 0} (e : ℕ) (s : Syntax) (found : List Field → ℕ → A) (fail : Refusal → A)
      → read b e (f s) p found fail ≡ fail r

module _ {b : List ℕ} where
  -- nothing, and fields of fixed widths
  pub nothing : {p : ℕ} (ls : List Line) → p ≤ 8 * length b → Passed b (λ s. s) ls p p (λ ts. ts)
  nothing ls h = record { over = λ e s found fail. refl; within = h; finds = λ nm h finds g ts. refl }

  pub group : {p : ℕ} (ls : List Line) → p + ends 0 ls ≤ 8 * length b
      → Passed b (fields ls) ls p (p + ends 0 ls) (λ ts. stand b p 0 ls ++ ts)
  group {p} ls h =
      record {
        over = λ e s found fail.
            group_from b e p 0 ls s found fail h
            ∙ ap (λ (k : ℕ). read b e s k (λ ts. found (stand b p 0 ls ++ ts)) fail) (shift_add p (ends 0 ls));
        within = h;
        finds = λ nm h finds g ts. group_finds nm h finds b p ls ts g;
      }

  -- one part behind another
  pub both : {p q r : ℕ} {f g : Syntax → Syntax} {ls ks : List Line} {put put' : List Field → List Field}
      → Passed b f ls p q put → Passed b g ks q r put' → Passed b (λ s. f (g s)) (ls ++ ks) p r (λ ts. put (put' ts))
  both {p} {q} {r} {f} {g} {ls} {ks} {put} {put'} one two =
      record {
        over = λ e s found fail. one.over e (g s) found fail ∙ two.over e s (λ ts. found (put ts)) fail;
        within = two.within;
        finds = λ nm h finds o ts.
            one.finds nm h finds (other_left nm ls ks o) (put' ts) ∙ two.finds nm h finds (other_right nm ls ks o) ts;
      }

  pub then_stopped : {p q : ℕ} {f g : Syntax → Syntax} {ls : List Line} {put : List Field → List Field} {r : Refusal}
      → Passed b f ls p q put → Stopped b g q r → Stopped b (λ s. f (g s)) p r
  then_stopped {g = g} {put = put} one two =
      record { stop = λ e s found fail. one.over e (g s) found fail ∙ two.stop e s (λ ts. found (put ts)) fail }

  pub stopped_before : {p : ℕ} {f : Syntax → Syntax} {r : Refusal} (g : Syntax → Syntax) → Stopped b f p r
      → Stopped b (λ s. f (g s)) p r
  stopped_before g one = record { stop = λ e s found fail. one.stop e (g s) found fail }

  -- behind a test for bits, passed or not
  pub enough : {p q : ℕ} {f : Syntax → Syntax} {ls : List Line} {put : List Field → List Field} (a : Fault) (w : ℕ)
      → w ≤ 8 * length b - p
      → Passed b f ls p q put → Passed b (λ s. need a w (f s)) ls p q put
  enough {p} {f = f} a w h one =
      record {
        over = λ e s found fail. laws.need_at b e p found fail a w (f s) h ∙ one.over e s found fail;
        within = one.within;
        finds = one.finds;
      }

  pub enough_stopped : {p : ℕ} {f : Syntax → Syntax} {r : Refusal} (a : Fault) (w : ℕ)
      → w ≤ 8 * length b - p → Stopped b f p r
      → Stopped b (λ s. need a w (f s)) p r
  enough_stopped {p} {f} a w h one =
      record { stop = λ e s found fail. laws.need_at b e p found fail a w (f s) h ∙ one.stop e s found fail }

  pub short : {p : ℕ} (f : Syntax → Syntax) (a : Fault) (w : ℕ) → 8 * length b - p < w
      → Stopped b (λ s. need a w (f s)) p (refuse a w (8 * length b - p))
  short {p} f a w h = record { stop = λ e s found fail. laws.need_no b e p found fail a w (f s) h }

  -- behind a branch
  pub yes_passed : {p q : ℕ} {f : Syntax → Syntax} {ls : List Line} {put : List Field → List Field} (t : Bool)
      (g : Syntax → Syntax) → t ≡ true
      → Passed b f ls p q put → Passed b (λ s. when t (f s) (g s)) ls p q put
  yes_passed {p} {f = f} t g h one =
      record {
        over = λ e s found fail. laws.when_yes b e p found fail t (f s) (g s) h ∙ one.over e s found fail;
        within = one.within;
        finds = one.finds;
      }

  pub no_passed : {p q : ℕ} {g : Syntax → Syntax} {ls : List Line} {put : List Field → List Field} (t : Bool)
      (f : Syntax → Syntax) → t ≡ false
      → Passed b g ls p q put → Passed b (λ s. when t (f s) (g s)) ls p q put
  no_passed {p} {g = g} t f h one =
      record {
        over = λ e s found fail. laws.when_no b e p found fail t (f s) (g s) h ∙ one.over e s found fail;
        within = one.within;
        finds = one.finds;
      }

  pub yes_stopped : {p : ℕ} {f : Syntax → Syntax} {r : Refusal} (t : Bool) (g : Syntax → Syntax) → t ≡ true
      → Stopped b f p r → Stopped b (λ s. when t (f s) (g s)) p r
  yes_stopped {p} {f} t g h one =
      record { stop = λ e s found fail. laws.when_yes b e p found fail t (f s) (g s) h ∙ one.stop e s found fail }

  pub no_stopped : {p : ℕ} {g : Syntax → Syntax} {r : Refusal} (t : Bool) (f : Syntax → Syntax) → t ≡ false
      → Stopped b g p r → Stopped b (λ s. when t (f s) (g s)) p r
  no_stopped {p} {g} t f h one =
      record { stop = λ e s found fail. laws.when_no b e p found fail t (f s) (g s) h ∙ one.stop e s found fail }

  -- nothing behind it
  pub passed_end : {p q : ℕ} {f : Syntax → Syntax} {ls : List Line} {put : List Field → List Field}
      → Passed b f ls p q put
      → {A : Type 0} (e : ℕ) (found : List Field → ℕ → A) (fail : Refusal → A)
      → read b e (f end) p found fail ≡ found (put []) q
  passed_end {q = q} {put = put} one e found fail =
      one.over e end found fail ∙ laws.end_at b e q (λ ts. found (put ts)) fail one.within

  -- fewer names than are said
  pub wider : {p q : ℕ} {f : Syntax → Syntax} {ls : List Line} {put : List Field → List Field} (ks : List Line)
      → ((nm : Name) → Other nm ks → Other nm ls)
      → Passed b f ls p q put → Passed b f ks p q put
  wider ks w one =
      record { over = one.over; within = one.within; finds = λ nm h finds o ts. one.finds nm h finds (w nm o) ts }

  -- a field, and behind it, at r, a part that depends on its number
  pub field_passed : {p q : ℕ} {ls : List Line} {put : List Field → List Field} (g : Sign) (nm : Name) (w : ℕ)
      (k : ℕ → Syntax → Syntax) (r : ℕ) → p + w ≡ r → r ≤ 8 * length b
      → Passed b (k (value_at b p w)) ls r q put
      → Passed b (λ s. field g nm w (λ n. k n s)) ((g, nm, w) ∷ ls) p q (λ ts. num g nm w (value_at b p w) ∷ put ts)
  field_passed {p} {put = put} g nm w k r z h one =
      let v : ℕ = value_at b p w in
      record {
        over = λ e s found fail.
            laws.field_at b e p found fail g nm w (λ n. k n s) (omega arith)
            ∙ ap (λ (x : ℕ). read b e (k v s) x (λ ts. found (num g nm w v ∷ ts)) fail) z
            ∙ one.over e s (λ ts. found (num g nm w v ∷ ts)) fail;
        within = one.within;
        finds = λ nm' find finds o ts.
            finds p (num g nm w v) (put ts) o.0 ∙ ap (λ (x : ℕ). find x (put ts)) z ∙ one.finds nm' find finds o.1 ts;
      }

  pub field_stopped : {p : ℕ} {f : Refusal} (g : Sign) (nm : Name) (w : ℕ) (k : ℕ → Syntax → Syntax) (r : ℕ)
      → p + w ≡ r → r ≤ 8 * length b
      → Stopped b (k (value_at b p w)) r f → Stopped b (λ s. field g nm w (λ n. k n s)) p f
  field_stopped {p} g nm w k r z h one =
      let v : ℕ = value_at b p w in
      record {
        stop = λ e s found fail.
            laws.field_at b e p found fail g nm w (λ n. k n s) (omega arith)
            ∙ ap (λ (x : ℕ). read b e (k v s) x (λ ts. found (num g nm w v ∷ ts)) fail) z
            ∙ one.stop e s (λ ts. found (num g nm w v ∷ ts)) fail;
      }

  pub field_short : {p : ℕ} (g : Sign) (nm : Name) (w : ℕ) (k : ℕ → Syntax → Syntax)
      → p ≤ 8 * length b → 8 * length b < p + w
      → Stopped b (λ s. field g nm w (λ n. k n s)) p (refuse FieldCut (p + w) (8 * length b))
  field_short {p} g nm w k l h =
      record { stop = λ e s found fail. laws.field_no b e p found fail g nm w (λ n. k n s) l h }

  -- n times a part of fixed fields; where each is tested by itself, the first that is cut short has what is left behind
  -- the whole ones
  pub several : (ls : List Line) (f : Syntax → Syntax) (p n : ℕ) → p + n * ends 0 ls ≤ 8 * length b
      → ((q : ℕ) → q + ends 0 ls ≤ 8 * length b → Passed b f ls q (q + ends 0 ls) (λ ts. stand b q 0 ls ++ ts))
      → Passed b (times n f) ls p (p + n * ends 0 ls) (many b p n ls)
  several ls f p n h each =
      record {
        over = λ e s found fail. each_at b e ls f fail (λ q s found g. (each q g).over e s found fail) p n s found h;
        within = h;
        finds = λ nm find finds o ts. many_finds nm find finds b p n ls ts o;
      }

  pub several_stopped : (ls : List Line) (f : Syntax → Syntax) (a : Fault) (p n : ℕ) → p ≤ 8 * length b
      → 8 * length b < p + n * ends 0 ls
      → ((q : ℕ) → q + ends 0 ls ≤ 8 * length b → Passed b f ls q (q + ends 0 ls) (λ ts. stand b q 0 ls ++ ts))
      → ((q : ℕ) → 8 * length b - q < ends 0 ls → Stopped b f q (refuse a (ends 0 ls) (8 * length b - q)))
      → Stopped b (times n f) p (refuse a (ends 0 ls) ((8 * length b - p) % ends 0 ls))
  several_stopped ls f a p n h l each none =
      record {
        stop = λ e s found fail.
            each_no b e ls f fail (λ q s found g. (each q g).over e s found fail) a
            (λ q s found g. (none q g).stop e s found fail) p n s found h l;
      }

-- ---- a part and the value that is made of its fields

pub record Told {K : Type 0} (b : List ℕ) (f : Syntax → Syntax) (ls : List Line) (by : List Field → K) (p : ℕ)
    (v : K) (q : ℕ) : Type 1 where
  pub put : List Field → List Field
  pub passed : Passed b f ls p q put
  pub value : (ts : List Field) → by (put ts) ≡ v

-- what comes of a part: a value and the place behind it, and what T says of them; or a refusal
pub data Outcome {K : Type 0} (b : List ℕ) (f : Syntax → Syntax) (p : ℕ) (T : K → ℕ → Type 1) : Type 1 where
  there : (v : K) (q : ℕ) → T v q → Outcome b f p T
  cut : (r : Refusal) → Stopped b f p r → Outcome b f p T

-- reading a part alone
abbrev pub alone : {K : Type 0} → List ℕ → (Syntax → Syntax) → (List Field → K) → ℕ → Result (Found K) Refusal
alone b f by p = read b 0 (f end) p (λ ts q. found_at (by ts) q) Err

module _ {K : Type 0} {b : List ℕ} {f : Syntax → Syntax} {p : ℕ} where
  pub stopped_answer : {r : Refusal} (by : List Field → K) → Stopped b f p r → alone b f by p ≡ Err r
  stopped_answer by s = s.stop 0 end (λ ts q. found_at (by ts) q) Err

  pub told_answer : {ls : List Line} {by : List Field → K} (v : K) (q : ℕ) → Told b f ls by p v q
      → alone b f by p ≡ found_at v q
  told_answer {by = by} v q t = passed_end t.passed 0 (λ ts q. found_at (by ts) q) Err
      ∙ ap (λ (z : K). found_at z q) (t.value [])

  -- the answer tells what came of the part, where it is this one for each value
  module _ (by : List Field → K) {T : K → ℕ → Type 1}
      (answer : (v : K) (q : ℕ) → T v q → alone b f by p ≡ found_at v q) where
    pub told : {r : Result (Found K) Refusal} {x : Found K} → Outcome b f p T → r ≡ alone b f by p
        → r ≡ Ok x → T x.value x.next
    told {x = x} (there v q t) e m =
        let z : found_at v q ≡ Ok x = sym (answer v q t) ∙ sym e ∙ m in
        let w : record { value = v; next = q } ≡ x = cc in
        subst (λ (y : Found K). T y.value y.next) w t
    told {x = x} (cut g s) e m =
        let z : Ok x ≡ Err g = sym m ∙ e ∙ stopped_answer by s in
        let y : ⊥ = cc in
        absurd y

    pub stopped : {r : Result (Found K) Refusal} {g : Refusal} → Outcome b f p T → r ≡ alone b f by p
        → r ≡ Err g → Stopped b f p g
    stopped {g = g} (there v q t) e m =
        let z : found_at v q ≡ Err g = sym (answer v q t) ∙ sym e ∙ m in
        let y : ⊥ = cc in
        absurd y
    stopped {g = g} (cut h s) e m =
        let z : Err h ≡ Err g = sym (stopped_answer by s) ∙ sym e ∙ m in
        let w : h ≡ g = cc in
        subst (λ (y : Refusal). Stopped b f p y) w s
