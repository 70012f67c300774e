pub mod LastAxis
pub mod Order
pub mod Places
pub mod Vectors
