pub mod Stages
pub mod Steps
