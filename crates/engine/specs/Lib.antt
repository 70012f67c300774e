pub mod Engine
pub mod Lengths
