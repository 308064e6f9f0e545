pub mod Interpolation
pub mod Times
pub mod Blocks
