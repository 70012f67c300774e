pub mod Axes
pub mod Numbers
