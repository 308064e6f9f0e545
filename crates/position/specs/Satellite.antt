-- Table id 0: a satellite from its fields, each by its name.
-- Assumes nothing: these are definitions.
use Rattle.std.specs.Prelude.{ℕ, cond, List, eqb, Result, Err}
use Rattle.format.specs.Syntax.{when, Field}
use Rattle.format.specs.Tables.{orbital, elements, position}
use Rattle.format.specs.ByName.{the}
use Rattle.format.specs.At.{read, found_at}
use Rattle.format.specs.declared.Refusal.{Refusal}
use Rattle.format.specs.declared.Found.{Found}
use Rattle.position.specs.declared.PositionSystem.{PositionSystem}
use Rattle.position.specs.declared.PositionSystem.TheVariants.{Orbital, Sgp4}
use Rattle.position.specs.declared.PositionV2Satellite.{PositionV2Satellite}

-- a position from its fields, of the one kind and of the other
abbrev pub orbital_of : List Field → PositionSystem
orbital_of ts = Orbital (the "orbital_position" ts) (eqb (the "west_east_flag" ts) 1) (the "position.reserved_zero_future_use" ts)

abbrev pub elements_of : List Field → PositionSystem
elements_of ts =
    Sgp4
    (the "epoch_year" ts)
    (the "day_of_the_year" ts)
    (the "day_fraction" ts)
    (the "mean_motion_first_derivative" ts)
    (the "mean_motion_second_derivative" ts)
    (the "drag_term" ts)
    (the "inclination" ts)
    (the "right_ascension" ts)
    (the "eccentricity" ts)
    (the "argument_of_perigree" ts)
    (the "mean_anomaly" ts)
    (the "mean_motion" ts)

-- the kind goes by position_system
abbrev pub system_of : ℕ → List Field → PositionSystem
system_of k ts = cond (eqb k 0) (orbital_of ts) (elements_of ts)

unfoldable pub satellite_of : List Field → PositionV2Satellite
satellite_of ts = record {
  satellite_id = the "satellite_id" ts;
  position = system_of (the "position_system" ts) ts;
  reserved_zero_future_use = the "reserved_zero_future_use" ts;
}

-- the satellite at a place
unfoldable pub satellite_at : List ℕ → ℕ → Result (Found PositionV2Satellite) Refusal
satellite_at b p = read b 0 position p (λ ts q. found_at (satellite_of ts) q) Err

-- the position behind a position_system of k, and each kind of it
unfoldable pub system_at : List ℕ → ℕ → ℕ → Result (Found PositionSystem) Refusal
system_at b k p = read b 0 (when (eqb k 0) orbital elements) p (λ ts q. found_at (system_of k ts) q) Err

unfoldable pub orbital_at : List ℕ → ℕ → Result (Found PositionSystem) Refusal
orbital_at b p = read b 0 orbital p (λ ts q. found_at (orbital_of ts) q) Err

unfoldable pub elements_at : List ℕ → ℕ → Result (Found PositionSystem) Refusal
elements_at b p = read b 0 elements p (λ ts q. found_at (elements_of ts) q) Err
