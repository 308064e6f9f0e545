pub mod Association
