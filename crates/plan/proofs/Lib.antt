pub mod Fields
pub mod Samples
