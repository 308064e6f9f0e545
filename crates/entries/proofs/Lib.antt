pub mod Ends
pub mod Bodies
