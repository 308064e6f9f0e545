pub mod Archive
pub mod Streams
pub mod Samples
