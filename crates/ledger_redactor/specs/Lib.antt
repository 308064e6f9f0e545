pub mod Measure
pub mod Places
