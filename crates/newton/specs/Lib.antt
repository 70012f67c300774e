pub mod Arithmetic
pub mod Difference
pub mod Polynomial
pub mod Statement
