pub mod Answered
pub mod Put
