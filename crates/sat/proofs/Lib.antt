pub mod Made
pub mod Typed
pub mod Indexed
pub mod BodyLaws
