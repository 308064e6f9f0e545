pub mod Headers
pub mod Fronts
pub mod Satellites
