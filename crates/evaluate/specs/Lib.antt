pub mod Evaluate
pub mod Order
pub mod Run
pub mod Taken
