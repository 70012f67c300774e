pub mod Comparison
pub mod Statement
