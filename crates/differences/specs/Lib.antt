pub mod Neighbours
pub mod Statement
pub mod Table
