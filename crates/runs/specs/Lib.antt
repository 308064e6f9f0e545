pub mod Ends
pub mod Lines
pub mod Stored
pub mod Appended
pub mod Flagged
