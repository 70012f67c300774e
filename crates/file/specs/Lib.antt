pub mod Accepted
pub mod Check
pub mod Headed
pub mod Long
pub mod Order
pub mod Stretch
