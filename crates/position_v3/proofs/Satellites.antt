-- What comes of a satellite, by what came of its parts.
-- Assumes nothing.
use Prim.Native.Nat.{ℕ, ◌+◌, ◌*◌, ◌≤◌}
use mathlib.Core.Path.{◌≡◌, refl, sym, ap, ◌∙◌}
use mathlib.Core.Bool.{cond}
use mathlib.Core.List.{List, [], ◌++◌}
use native.Mathlib.Omega.{arith}
use lib.Dec.{eqb}
use lib.ListN.{length}
use Rattle.format.specs.Syntax.{Name, Syntax, Field, end}
use Rattle.format.specs.Tables.{position3}
use Rattle.format.specs.ByName.{number_in, the, first_by, behind}
use Rattle.format.specs.At.{read, found_at}
use Rattle.std.specs.Prelude.{Option, Some, None, Result, Ok, Err}
use Rattle.std.specs.Int.{from_bool}
use Rattle.format.specs.declared.Refusal.{Refusal}
use Rattle.format.specs.declared.Found.{Found}
use Rattle.format.proofs.GroupLaws.{Line, stand}
use Rattle.format.proofs.ListLaws.{Other}
use Rattle.bits.specs.Read.{Place}
use Rattle.parts.specs.Parts.{part_from, part_by}
use Rattle.parts.specs.declared.Part.{Part}
use Rattle.metadata.specs.Metadata.{optional, metadata_by, maybe_metadata, metadata_at}
use Rattle.metadata.specs.declared.PositionV3Metadata.{PositionV3Metadata}
use Rattle.metadata.proofs.Blocks.{metadata_lines, Block, block_told, block_stopped}
use Rattle.metadata.proofs.Blocks as blocks
use Rattle.ephemeris.specs.Ephemeris.{entry_bits, counted, closing, covariance_by, maybe_covariance, all_by, ephemerides_at, covariance_at}
use Rattle.ephemeris.specs.declared.CovarianceData.{CovarianceData}
use Rattle.ephemeris.proofs.Words.{all_finds}
use Rattle.ephemeris.proofs.Entries.{ephemeris_lines, Listed, Unlisted, listed_told, listed_stopped}
use Rattle.ephemeris.proofs.Closing.{Closed, closed_told, closed_stopped}
use Rattle.ephemeris.proofs.Closing as closing-laws
use Rattle.passing.proofs.Passing.{first_finds, behind_finds, others, Passed, Stopped, both, then_stopped, stopped_before, passed_end}
use Rattle.position_v3.specs.PositionV3.{front_of, satellite_v3_of, satellite_v3_at}
use Rattle.position_v3.specs.declared.PositionV3Satellite.{PositionV3Satellite}
use Rattle.position_v3.specs.declared.Front.{Front}
use Rattle.position_v3.proofs.Fronts.{front_lines, bit, Rest, fronted, front_passed, front_behind, Fronted}

-- what follows the flags
abbrev pub rest : Rest
rest m t u a c s = optional m t u (counted a (closing c s))

-- a refused satellite
pub stopped_read : {b : List ℕ} {p : ℕ} {g : Refusal} → Stopped b (fronted rest) p g → Err g ≡ satellite_v3_at b p
unfolding satellite_v3_at position3
stopped_read {p = p} s = sym (s.stop 0 end (λ ts q. found_at (satellite_v3_of p ts) q) Err)

-- a part that has none of the covariance's names is passed over in finding them
covariance_behind : {b : List ℕ} {f : Syntax → Syntax} {ls : List Line} {p q : ℕ} {put : List Field → List Field}
    → Passed b f ls p q put
    → Other "covariance_epoch_year" ls → Other "covariance_epoch_day" ls → Other "covariance_epoch_day_fraction" ls
    → Other "covariance_elements" ls → Other "covariance_epoch_reserved_zero_future_use" ls → (ts : List Field)
    → covariance_by (put ts) ≡ covariance_by ts
covariance_behind {ls = ls} {put = put} one y d f e r ts =
    λ i. record {
      covariance_epoch_year = skip "covariance_epoch_year" y i;
      covariance_epoch_day = skip "covariance_epoch_day" d i;
      covariance_epoch_day_fraction = skip "covariance_epoch_day_fraction" f i;
      covariance_elements =
          one.finds "covariance_elements" (λ _ us. all_by "covariance_elements" us)
          (all_finds "covariance_elements") e ts i;
      covariance_epoch_reserved_zero_future_use = skip "covariance_epoch_reserved_zero_future_use" r i;
    }
  where
    skip : (nm : Name) → Other nm ls → the nm (put ts) ≡ the nm ts
    skip nm o = one.finds nm (λ _ us. the nm us) (first_finds number_in 0 nm) o ts

-- a satellite of its parts
abbrev made_of : Front → Option PositionV3Metadata → Part → Option CovarianceData → PositionV3Satellite
made_of f m t c =
    record {
      satellite_id = f.satellite_id;
      usable_start_time_flag = f.flags.start;
      usable_stop_time_flag = f.flags.stop;
      ephemeris_accel_flag = f.flags.accel;
      covariance_flag = f.flags.covariance;
      metadata = m;
      ephemeris_data = t;
      covariance = c;
      reserved_zero_future_use = f.reserved;
    }

module _ (b : List ℕ) (p : ℕ) where
  -- the front's flags as numbers
  abbrev meta : ℕ
  meta = from_bool (front_of b p).metadata

  abbrev start : ℕ
  start = from_bool (front_of b p).flags.start

  abbrev stop : ℕ
  stop = from_bool (front_of b p).flags.stop

  abbrev pub accel : ℕ
  accel = from_bool (front_of b p).flags.accel

  abbrev cov : ℕ
  cov = from_bool (front_of b p).flags.covariance

  abbrev pub Meta : Option PositionV3Metadata → ℕ → Type 1
  Meta m q = Block b meta start stop (p + 32) m q

  -- refused in the metadata, in the ephemeris data, and in the covariance
  pub metadata_stopped : {g : Refusal} → p + 32 ≤ 8 * length b → blocks.Halted b meta start stop (p + 32) g
      → Stopped b (fronted rest) p g
  metadata_stopped h s = front_behind b p rest h (stopped_before (λ k. counted accel (closing cov k)) s)

  pub list_stopped : {m : Option PositionV3Metadata} {q : ℕ} {g : Refusal} → p + 32 ≤ 8 * length b
      → Meta m q → Unlisted b accel q g
      → Stopped b (fronted rest) p g
  list_stopped h one s = front_behind b p rest h (then_stopped one.passed (stopped_before (closing cov) s))

  pub closing_stopped : {m : Option PositionV3Metadata} {t : Part} {q r : ℕ} {g : Refusal}
      → p + 32 ≤ 8 * length b → Meta m q
      → Listed b accel q t r → closing-laws.Halted b cov r g → Stopped b (fronted rest) p g
  closing_stopped h one two s = front_behind b p rest h (then_stopped (both one.passed two.passed) s)

  -- all of it there
  module _ {m : Option PositionV3Metadata} {t : Part} {c : Option CovarianceData} {q r n : ℕ}
      (h : p + 32 ≤ 8 * length b)
      (one : Meta m q) (two : Listed b accel q t r) (three : Closed b cov r c n) where
    abbrev ts : List Field
    ts = stand b p 0 front_lines ++ one.put (two.put (three.put []))

    whole : {A : Type 0} (found : List Field → ℕ → A) (fail : Refusal → A)
        → read b 0 position3 p found fail ≡ found ts n
    unfolding position3
    whole found fail =
        passed_end (front_passed b p rest h (both one.passed (both two.passed three.passed))) 0 found fail

    -- its values by name
    metadata_made : maybe_metadata (the "metadata_flag" ts) (the "usable_start_time_flag" ts)
        (the "usable_stop_time_flag" ts) ts ≡ m
    unfolding metadata_by first_by
    metadata_made =
        let us : List Field = one.put (two.put (three.put [])) in
        (λ i. maybe_metadata (sym (bit b (p + 27)) i) (sym (bit b (p + 28)) i) (sym (bit b (p + 29)) i) us)
        ∙ one.value (two.put (three.put []))

    part_made : part_by "ephemeris_data_count" (entry_bits (the "ephemeris_accel_flag" ts)) p ts ≡ t
    unfolding first_by behind
    part_made =
        let us : List Field = two.put (three.put []) in
        let z : p + 24 + 3 + 1 + 1 + 1 + 1 + 1 ≡ p + 32 = omega arith in
        let o : Other "ephemeris_data_count" metadata_lines = others "ephemeris_data_count" metadata_lines refl in
        let x : behind "ephemeris_data_count" (p + 24 + 3 + 1 + 1 + 1 + 1 + 1) (one.put us) ≡ behind
        "ephemeris_data_count" q us =
        ap (λ (k : ℕ). behind "ephemeris_data_count" k (one.put us)) z
        ∙ one.passed.finds "ephemeris_data_count" (behind "ephemeris_data_count")
        (behind_finds "ephemeris_data_count") o us in
        let y : the "ephemeris_data_count" (one.put us) ≡ the "ephemeris_data_count" us =
        one.passed.finds "ephemeris_data_count" (λ _ us. the "ephemeris_data_count" us)
        (first_finds number_in 0 "ephemeris_data_count") o us in
        (λ i. part_from (entry_bits (sym (bit b (p + 30)) i)) (x i) (y i)) ∙ two.value (three.put [])

    covariance_made : maybe_covariance (the "covariance_flag" ts) ts ≡ c
    unfolding first_by all_by
    covariance_made =
        let us : List Field = two.put (three.put []) in
        let y : covariance_by (one.put us) ≡ covariance_by us =
        covariance_behind one.passed
        (others "covariance_epoch_year" metadata_lines refl)
        (others "covariance_epoch_day" metadata_lines refl)
        (others "covariance_epoch_day_fraction" metadata_lines refl)
        (others "covariance_elements" metadata_lines refl)
        (others "covariance_epoch_reserved_zero_future_use" metadata_lines refl) us in
        let z : covariance_by us ≡ covariance_by (three.put []) =
        covariance_behind two.passed
        (others "covariance_epoch_year" ephemeris_lines refl)
        (others "covariance_epoch_day" ephemeris_lines refl)
        (others "covariance_epoch_day_fraction" ephemeris_lines refl)
        (others "covariance_elements" ephemeris_lines refl)
        (others "covariance_epoch_reserved_zero_future_use" ephemeris_lines refl) (three.put []) in
        (λ i. cond (eqb (sym (bit b (p + 31)) i) 1) (Some ((y ∙ z) i)) None) ∙ three.value

    satellite_made : satellite_v3_of p ts ≡ made_of (front_of b p) m t c
    unfolding satellite_v3_of first_by
    satellite_made =
        let f = front_of b p in
        λ i. record {
          satellite_id = f.satellite_id;
          usable_start_time_flag = f.flags.start;
          usable_stop_time_flag = f.flags.stop;
          ephemeris_accel_flag = f.flags.accel;
          covariance_flag = f.flags.covariance;
          metadata = metadata_made i;
          ephemeris_data = part_made i;
          covariance = covariance_made i;
          reserved_zero_future_use = f.reserved;
        }

    whole_read : found_at (made_of (front_of b p) m t c) n ≡ satellite_v3_at b p
    unfolding satellite_v3_at
    whole_read =
        sym (whole (λ us k. found_at (satellite_v3_of p us) k) Err
        ∙ ap (λ (k : PositionV3Satellite). found_at k n) satellite_made)

-- ---- the same by what the parts' readers answer. k: what `read_front` found

module _ (b : List ℕ) (p : ℕ) {k : Found Front} (l : Place b p) (o : Fronted b p k) where
  abbrev v : k.value ≡ front_of b p
  v = o.value

  here : Place b (p + 32)
  here = record { short = l.short; within = o.room }

  pub place : Place b k.next
  place = record { short = l.short; within = omega (arith, o.next, o.room) }

  module _ {x : Result (Found (Option PositionV3Metadata)) Refusal}
      (e : x ≡ metadata_at b (from_bool k.value.metadata) (from_bool k.value.flags.start)
      (from_bool k.value.flags.stop) k.next) where
    same : x ≡ metadata_at b (meta b p) (start b p) (stop b p) (p + 32)
    same = e ∙ (λ i. metadata_at b (from_bool (v i).metadata) (from_bool (v i).flags.start)
        (from_bool (v i).flags.stop) (o.next i))

    pub meta_told : {y : Found (Option PositionV3Metadata)} → x ≡ Ok y → Meta b p y.value y.next
    meta_told m = block_told b (meta b p) (start b p) (stop b p) (p + 32) here same m

    pub meta_refused : {g : Refusal} → x ≡ Err g → Err g ≡ satellite_v3_at b p
    meta_refused m =
        stopped_read (metadata_stopped b p o.room
        (block_stopped b (meta b p) (start b p) (stop b p) (p + 32) here same m))

  module _ {m : Option PositionV3Metadata} {q : ℕ} (one : Meta b p m q) where
    pub behind_meta : Place b q
    behind_meta = record { short = l.short; within = one.passed.within }

    module _ {x : Result (Found Part) Refusal} (e : x ≡ ephemerides_at b (from_bool k.value.flags.accel) q) where
      listed : x ≡ ephemerides_at b (accel b p) q
      listed = e ∙ (λ i. ephemerides_at b (from_bool (v i).flags.accel) q)

      pub list_told : {y : Found Part} → x ≡ Ok y → Listed b (accel b p) q y.value y.next
      list_told h = listed_told b (accel b p) q behind_meta listed h

      pub list_refused : {g : Refusal} → x ≡ Err g → Err g ≡ satellite_v3_at b p
      list_refused h = stopped_read (list_stopped b p o.room one (listed_stopped b (accel b p) q behind_meta listed h))

    module _ {t : Part} {r : ℕ} (two : Listed b (accel b p) q t r) where
      pub behind_list : Place b r
      behind_list = record { short = l.short; within = two.passed.within }

      module _ {x : Result (Found (Option CovarianceData)) Refusal}
          (e : x ≡ covariance_at b (from_bool k.value.flags.covariance) r) where
        closes : x ≡ covariance_at b (cov b p) r
        closes = e ∙ (λ i. covariance_at b (from_bool (v i).flags.covariance) r)

        pub closing_refused : {g : Refusal} → x ≡ Err g → Err g ≡ satellite_v3_at b p
        closing_refused h =
            stopped_read (closing_stopped b p o.room one two (closed_stopped b (cov b p) r behind_list closes h))

        pub satellite_read : {y : Found (Option CovarianceData)} → x ≡ Ok y
            → found_at (made_of k.value m t y.value) y.next ≡ satellite_v3_at b p
        satellite_read {y} h =
            ap (λ (f : Front). found_at (made_of f m t y.value) y.next) v
            ∙ whole_read b p o.room one two (closed_told b (cov b p) r behind_list closes h)
