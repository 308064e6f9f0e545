pub mod Metadata
