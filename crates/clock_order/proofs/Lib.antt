pub mod ClockLaws
pub mod Ways
pub mod Orders
