pub mod Axes
pub mod Filled
pub mod Grids
