pub mod Answers
pub mod Files
pub mod OnGrid
pub mod Order
pub mod Taken
