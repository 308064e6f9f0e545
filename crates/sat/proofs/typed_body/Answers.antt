-- The body's fields by the id.
-- Assumes nothing.
use mathlib.Core.Path.{◌≡◌}
use Rattle.std.proofs.Common.{Ok}
use Rattle.format.specs.Tables as tables
use Rattle.association.specs.Association.{association_of, association_at}
use Rattle.format.proofs.Passed.{carried}
use Rattle.entries.proofs.Ends.{made_found, made_refused}
use Rattle.sat.specs.SatBody.{typed_body, association_body}
use Rattle.sat.specs.declared.SatBody.TheVariants.{TimeAssociation}
use Rattle.sat.proofs.typed_body.Goals as goal

pub returns-in_err-read_association-in-2 : goal.returns-in_err-read_association-in-2
unfolding typed_body association_body association_at
returns-in_err-read_association-in-2 c =
    let a = c.args in
    let z : a.table_id ≡ 2 = c.in-2.is in
    rw (carried c.from_residual.ensures, z)
    (made_refused a.s.now tables.association 0 association_of (λ x q. Ok (TimeAssociation x)) c.read_association.ensures
    c.in_err-read_association-in-2.was)

pub returns-in_ok-read_association-in-2 : goal.returns-in_ok-read_association-in-2
unfolding typed_body association_body association_at
returns-in_ok-read_association-in-2 c =
    let a = c.args in
    let z : a.table_id ≡ 2 = c.in-2.is in
    rw z
    (made_found a.s.now tables.association 0 association_of (λ x q. Ok (TimeAssociation x)) c.read_association.ensures
    c.in_ok-read_association-in-2.was)
