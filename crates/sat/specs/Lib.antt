pub mod Sat
pub mod SatBody
