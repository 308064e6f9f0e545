pub mod Ephemeris
pub mod Entry
