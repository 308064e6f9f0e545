pub mod PositionV3
