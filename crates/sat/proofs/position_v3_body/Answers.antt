-- The header's fields, and the part behind them.
-- Assumes nothing.
use mathlib.Core.Path.{sym, ap, ◌∙◌}
use Prim.Native.Nat.{ℕ}
use Rattle.std.specs.Prelude.{Result, Ok}
use Rattle.format.specs.Tables as tables
use Rattle.format.specs.declared.Refusal.{Refusal}
use Rattle.position_v3.specs.PositionV3.{header_of, header_at}
use Rattle.position_v3.specs.declared.PositionV3Header.{PositionV3Header}
use Rattle.format.proofs.Passed.{carried}
use Rattle.entries.specs.Entries.{next_of}
use Rattle.entries.proofs.Ends.{ends, made_found, made_refused}
use Rattle.entries.proofs.Bodies.{head_ends}
use Rattle.sat.specs.SatBody.{list_part, position3_body}
use Rattle.sat.specs.declared.SatBody.{SatBody}
use Rattle.sat.specs.declared.SatBody.TheVariants.{PositionV3}
use Rattle.sat.proofs.position_v3_body.Goals as goal

-- the body of a header that ends at q, with n satellites behind it up to e
body_of : ℕ → ℕ → PositionV3Header → ℕ → Result SatBody Refusal
body_of n e h q =
    Ok (PositionV3 (record {
      oem_version_major = h.oem_version_major;
      oem_version_minor = h.oem_version_minor;
      creation_date_year = h.creation_date_year;
      creation_date_day = h.creation_date_day;
      creation_date_day_fraction = h.creation_date_day_fraction;
      satellites = list_part q e n;
      creation_date_reserved_zero_future_use = h.creation_date_reserved_zero_future_use;
    }))

pub returns-in_err-found : goal.returns-in_err-found
unfolding body_of position3_body header_at
returns-in_err-found c =
    let a = c.args in
    rw (carried c.from_residual.ensures)
    (made_refused a.s.now tables.header 0 header_of (body_of a.count a.end) c.read_header.ensures c.in_err-found.was)

pub list_part-requires : goal.list_part-requires
unfolding header_at
list_part-requires c =
    let a = c.args in
    let e = sym (ends a.s.now tables.header 0 header_of c.read_header.ensures) ∙ ap next_of c.in_ok-found.was in
    rw (head_ends 4 a.s.now _ e) at c.requires.1

pub returns : goal.returns
unfolding body_of position3_body header_at
returns c =
    let a = c.args in
    rw c.list_part.ensures
    (made_found a.s.now tables.header 0 header_of (body_of a.count a.end) c.read_header.ensures c.in_ok-found.was)
