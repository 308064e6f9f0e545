pub mod Words
pub mod Entries
pub mod Closing
pub mod Indexed
