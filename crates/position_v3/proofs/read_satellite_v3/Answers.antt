-- `read_satellite_v3` meets its contract: part after part, each by what its own reader answers.
-- Assumes nothing.
use mathlib.Core.Path.{◌∙◌}
use Rattle.format.proofs.Passed.{carried}
use Rattle.ephemeris.proofs.Entries.{Listed}
use Rattle.position_v3.proofs.Fronts.{Fronted, front_told, front_stopped}
use Rattle.position_v3.proofs.Satellites.{rest, stopped_read, Meta, accel, place, meta_told, meta_refused, behind_meta, list_told, list_refused, behind_list, closing_refused, satellite_read}
use Rattle.position_v3.proofs.read_satellite_v3.Goals as goal
use Rattle.position_v3.proofs.read_satellite_v3.Goals.{In_ok-front, In_ok-metadata, In_ok-entries}

-- what is known behind the front, behind the metadata and behind the ephemeris data
fronted : (c : In_ok-front) → Fronted c.args.from.body.now c.args.from.at c.in_ok-front.front
fronted c = front_told c.args.from.body.now c.args.from.at c.requires.at_value c.args.from.place.within
    c.read_front.ensures c.in_ok-front.was

meta : (c : In_ok-metadata) → let a = c.args.from in
    Meta a.body.now a.at c.in_ok-metadata.metadata.value c.in_ok-metadata.metadata.next
meta c =
    let a = c.args.from in
    let f : Fronted a.body.now a.at c.in_ok-front.front =
    front_told a.body.now a.at c.requires.at_value a.place.within c.read_front.ensures c.in_ok-front.was in
    meta_told a.body.now a.at a.place f (rw (c.to-behind.ensures.0, c.to-behind.ensures.1) at c.read_metadata.ensures)
    c.in_ok-metadata.was

list : (c : In_ok-entries) → let a = c.args.from in
    Listed a.body.now (accel a.body.now a.at) c.in_ok-metadata.metadata.next c.in_ok-entries.entries.value
    c.in_ok-entries.entries.next
list c =
    let a = c.args.from in
    let f : Fronted a.body.now a.at c.in_ok-front.front =
    front_told a.body.now a.at c.requires.at_value a.place.within c.read_front.ensures c.in_ok-front.was in
    let m : Meta a.body.now a.at c.in_ok-metadata.metadata.value c.in_ok-metadata.metadata.next =
    meta_told a.body.now a.at a.place f (rw (c.to-behind.ensures.0, c.to-behind.ensures.1) at c.read_metadata.ensures)
    c.in_ok-metadata.was in
    list_told a.body.now a.at a.place f m (rw (c.to.ensures.0, c.to.ensures.1) at c.read_ephemerides.ensures)
    c.in_ok-entries.was

pub returns-in_err-front : goal.returns-in_err-front
returns-in_err-front c =
    let a = c.args.from in
    carried c.from_residual.ensures
    ∙ stopped_read (front_stopped a.body.now a.at c.requires.at_value a.place.within c.read_front.ensures
    rest c.in_err-front.was)

pub to-behind-requires : goal.to-behind-requires
to-behind-requires c =
    place c.args.from.body.now c.args.from.at c.args.from.place (fronted (goal.at.to-behind-requires c).In_ok-front)

pub returns-in_err-metadata : goal.returns-in_err-metadata
returns-in_err-metadata c =
    let a = c.args.from in
    let f = fronted (goal.at.returns-in_err-metadata c).In_ok-front in
    carried c.from_residual-in_err-metadata.ensures
    ∙ meta_refused a.body.now a.at a.place f (rw (c.to-behind.ensures.0, c.to-behind.ensures.1) at c.read_metadata.ensures)
    c.in_err-metadata.was

pub to-requires : goal.to-requires
to-requires c =
    let g = goal.at.to-requires c in
    behind_meta c.args.from.body.now c.args.from.at c.args.from.place (fronted g.In_ok-front) (meta g.In_ok-metadata)

pub returns-in_err-entries : goal.returns-in_err-entries
returns-in_err-entries c =
    let a = c.args.from in
    let g = goal.at.returns-in_err-entries c in
    carried c.from_residual-in_err-entries.ensures
    ∙ list_refused a.body.now a.at a.place (fronted g.In_ok-front) (meta g.In_ok-metadata)
    (rw (c.to.ensures.0, c.to.ensures.1) at c.read_ephemerides.ensures) c.in_err-entries.was

pub to-requires-2 : goal.to-requires-2
to-requires-2 c =
    let g = goal.at.to-requires-2 c in
    behind_list c.args.from.body.now c.args.from.at c.args.from.place (fronted g.In_ok-front)
    (meta g.In_ok-metadata) (list g.In_ok-entries)

pub returns-in_err-covariance : goal.returns-in_err-covariance
returns-in_err-covariance c =
    let a = c.args.from in
    let g = goal.at.returns-in_err-covariance c in
    carried c.from_residual-in_err-covariance.ensures
    ∙ closing_refused a.body.now a.at a.place (fronted g.In_ok-front) (meta g.In_ok-metadata)
    (list g.In_ok-entries) (rw (c.to-2.ensures.0, c.to-2.ensures.1) at c.read_covariance.ensures)
    c.in_err-covariance.was

pub returns : goal.returns
returns c =
    let a = c.args.from in
    let g = goal.at.returns c in
    satellite_read a.body.now a.at a.place (fronted g.In_ok-front) (meta g.In_ok-metadata) (list g.In_ok-entries)
    (rw (c.to-2.ensures.0, c.to-2.ensures.1) at c.read_covariance.ensures)
    c.in_ok-covariance.was
