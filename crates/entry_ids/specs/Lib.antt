pub mod Ids
pub mod Steps
