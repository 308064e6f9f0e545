-- Document 01's samples P3 and P2 as satellites, by computation.
-- Assumes nothing.
use mathlib.Core.Path.{◌≡◌, refl}
use mathlib.Core.Bool.{true}
use mathlib.Core.List.{[], ◌∷◌}
use Rattle.std.specs.Prelude.{Err}
use Rattle.format.specs.Digits.{digits, value, bits_of}
use Rattle.format.specs.Refusals.{refuse}
use Rattle.format.specs.Tables.{position}
use Rattle.format.specs.Body.{read_body}
use Rattle.format.specs.ByName.{first_by}
use Rattle.format.specs.At.{read, found_at}
use Rattle.format.specs.declared.Fault.TheVariants.{ElementsCut}
use Rattle.position.specs.Satellite.{satellite_of, satellite_at}
use Rattle.position.specs.declared.PositionSystem.TheVariants.{Orbital}

pub p3 : satellite_at (0 ∷ 0 ∷ 7 ∷ 0 ∷ 1 ∷ 0x20 ∷ 0x80 ∷ []) 0
    ≡ found_at (record { satellite_id = 7; position = Orbital 0x0120 true 0; reserved_zero_future_use = 0 }) 56
unfolding satellite_at satellite_of position read read_body first_by bits_of digits value
p3 = refl

pub p2 : satellite_at (0 ∷ 0 ∷ 7 ∷ 1 ∷ 1 ∷ 0x20 ∷ []) 0 ≡ Err (refuse ElementsCut 344 16)
unfolding satellite_at satellite_of position read read_body first_by bits_of digits value
p2 = refl
