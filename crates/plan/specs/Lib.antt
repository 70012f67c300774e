pub mod Comparison
pub mod Plan
