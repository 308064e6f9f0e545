pub mod Satellite
