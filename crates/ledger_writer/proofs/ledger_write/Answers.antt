-- `ledger_write`: the refusals, and the front and the content where there is room.
-- Assumes nothing.
use mathlib.Core.Path.{◌≡◌, ◌∙◌}
use native.Mathlib.Omega.{arith}
use borrow.Author.Rules.{rules}
use Rattle.std.specs.Prelude.{◌≤◌, length, Ok}
use Rattle.format.specs.declared.Output.{Output}
use Rattle.format.proofs.Passed.{carried}
use Rattle.ledger_writer.proofs.WrittenLaws.{known, room_for, says_no, says_short, says_yes}
use Rattle.ledger_writer.proofs.ledger_write.Goals as goal

pub returns-in_err-need : goal.returns-in_err-need
returns-in_err-need c = rw (carried c.from_residual.ensures) (says_no _ _ _ _ c.in_err-need.ensures)

pub returns-in_err-output : goal.returns-in_err-output
returns-in_err-output c =
    let no = carried c.from_residual-in_err-output.ensures in
    let room : (o : Output) → c.fitted.result ≡ Ok o → c.in_ok-need.need ≤ length c.args.out.now =
    λ o is. (room_for c.args.out.now (known c.in_ok-need.ensures) (rw is at c.fitted.ensures)).1 in
    let same : c.fitted.result ≡ c.from_residual-in_err-output.result = grind (arith, room) in
    rw no (says_short c.args.out.now (known c.in_ok-need.ensures) (rw (same ∙ no) at c.fitted.ensures))

pub overflow_sub-need : goal.overflow_sub-need
overflow_sub-need c =
    let yes : c.fitted.result ≡ Ok c.in_ok-output.output = search rules in
    omega (arith, room_for c.args.out.now (known c.in_ok-need.ensures) (rw yes at c.fitted.ensures))

pub put_be-requires : goal.put_be-requires
put_be-requires c =
    let yes : c.fitted.result ≡ Ok c.in_ok-output.output = search rules in
    omega (arith, room_for c.args.out.now (known c.in_ok-need.ensures) (rw yes at c.fitted.ensures))

pub put_be-requires-2 : goal.put_be-requires-2
put_be-requires-2 c =
    let yes : c.fitted.result ≡ Ok c.in_ok-output.output = search rules in
    omega (arith, room_for c.args.out.now (known c.in_ok-need.ensures) (rw yes at c.fitted.ensures))

pub put_be-requires-3 : goal.put_be-requires-3
put_be-requires-3 c =
    let yes : c.fitted.result ≡ Ok c.in_ok-output.output = search rules in
    omega (arith, room_for c.args.out.now (known c.in_ok-need.ensures) (rw yes at c.fitted.ensures))

pub slice_bounds-write_content-count : goal.slice_bounds-write_content-count
slice_bounds-write_content-count c =
    let yes : c.fitted.result ≡ Ok c.in_ok-output.output = search rules in
    omega (arith, room_for c.args.out.now (known c.in_ok-need.ensures) (rw yes at c.fitted.ensures))

pub slice_bounds-write_content-start : goal.slice_bounds-write_content-start
slice_bounds-write_content-start c =
    let yes : c.fitted.result ≡ Ok c.in_ok-output.output = search rules in
    omega (arith, room_for c.args.out.now (known c.in_ok-need.ensures) (rw yes at c.fitted.ensures))

pub write_content-requires : goal.write_content-requires
write_content-requires c = (known c.in_ok-need.ensures).short

pub returns : goal.returns
returns c =
    let yes : c.fitted.result ≡ Ok c.in_ok-output.output = search rules in
    says_yes _ c.version.ensures c.ranges.table_id.fits (known c.in_ok-need.ensures) (rw yes at c.fitted.ensures) c.put_be.ensures c.put_be-2.ensures c.put_be-3.ensures
    (search rules) c.write_content.ensures
