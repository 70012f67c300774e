pub mod Algorithm
pub mod Computed
pub mod Quotients
pub mod Table
