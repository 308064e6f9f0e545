pub mod MarkLaws
pub mod Names
pub mod Stores
pub mod Copies
pub mod Appends
pub mod FlagLaws
