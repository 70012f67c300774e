pub mod Casts
pub mod Complement
pub mod InputWords
