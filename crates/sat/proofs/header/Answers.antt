-- The body's own faults first, then the header's reader.
-- Assumes nothing.
use mathlib.Core.Path.{refl}
use native.Mathlib.Omega.{arith}
use Rattle.std.proofs.Common.{Some, Ok}
use Rattle.format.specs.Tables as tables
use Rattle.position_v3.specs.PositionV3.{header_of, header_at}
use Rattle.bits.proofs.Tests.{equal, not_equal}
use Rattle.format.proofs.Passed.{carried}
use Rattle.entries.proofs.Ends.{made_found, made_refused}
use Rattle.sat.specs.Sat.{header_of_body}
use Rattle.sat.proofs.Made.{walked_on, walked_off}
use Rattle.sat.proofs.header.Goals as goal

pub returns-in_err-walk_body : goal.returns-in_err-walk_body
unfolding header_of_body
returns-in_err-walk_body c =
    rw (carried c.from_residual.ensures) (walked_off _ 0 _ _ _ c.walk_body.ensures.value c.in_err-walk_body.was refl)

pub returns-then-table_id-ne4 : goal.returns-then-table_id-ne4
unfolding header_of_body
returns-then-table_id-ne4 c =
    walked_on _ 0 _ _ _ c.walk_body.ensures.value c.in_ok-walk_body.was (not_equal _ _ c.if-table_id-ne4.true refl)

pub returns-in_err-header : goal.returns-in_err-header
unfolding header_of_body header_at
returns-in_err-header c =
    let a = c.args in
    rw (carried c.from_residual-in_err-header.ensures)
    (walked_on _ 0 _ _ _ c.walk_body.ensures.value c.in_ok-walk_body.was
    (equal {m = a.table_id} {n = 4} _ _ (omega (arith, c.if-table_id-ne4.false))
    (made_refused a.body.now tables.header 0 header_of (λ h q. Ok (Some h)) c.read_header.ensures c.in_err-header.was)))

pub returns : goal.returns
unfolding header_of_body header_at
returns c =
    let a = c.args in
    walked_on _ 0 _ _ _ c.walk_body.ensures.value c.in_ok-walk_body.was
    (equal {m = a.table_id} {n = 4} _ _ (omega (arith, c.if-table_id-ne4.false))
    (made_found a.body.now tables.header 0 header_of (λ h q. Ok (Some h)) c.read_header.ensures c.in_ok-header.was))
