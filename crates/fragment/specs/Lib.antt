pub mod Fragment
pub mod Inner
