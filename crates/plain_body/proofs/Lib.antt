pub mod ByLedger
