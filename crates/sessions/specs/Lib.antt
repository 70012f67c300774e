pub mod Calls
pub mod Demand3
pub mod Order
pub mod Position
pub mod Session
pub mod Taken
