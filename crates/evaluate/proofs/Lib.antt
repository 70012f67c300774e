pub mod Answers
pub mod Operands
pub mod Order
pub mod Taken
pub mod Words
