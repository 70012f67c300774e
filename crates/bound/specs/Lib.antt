pub mod Axes
pub mod Bound
pub mod Quotients
