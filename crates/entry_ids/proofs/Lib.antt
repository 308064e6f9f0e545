pub mod Lists
pub mod Walks
pub mod Bodies
pub mod Calls
