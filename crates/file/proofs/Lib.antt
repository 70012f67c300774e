pub mod Accepted
pub mod Cases
pub mod Checked
pub mod Long
pub mod Number
pub mod Order
pub mod Sound
pub mod Steps
