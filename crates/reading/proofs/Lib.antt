pub mod Names
pub mod Readings
