pub mod Lists
pub mod Ones
