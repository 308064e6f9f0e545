pub mod Output
pub mod Samples
