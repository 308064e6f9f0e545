pub mod Systems
pub mod Samples
