pub mod Arithmetic
pub mod OneVariable
