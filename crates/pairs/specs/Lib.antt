pub mod Holds
pub mod Pairs
pub mod Statement
pub mod Written
