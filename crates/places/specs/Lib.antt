pub mod Places
pub mod Statement
pub mod Vectors
