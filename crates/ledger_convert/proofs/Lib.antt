pub mod Cuts
pub mod Told
pub mod Conversions
pub mod Reading
pub mod Steps
pub mod NothingLost
pub mod SamplesHold
