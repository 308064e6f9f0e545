pub mod Measure
pub mod Plans
pub mod Steps
