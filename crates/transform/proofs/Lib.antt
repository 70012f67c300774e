pub mod Axes
pub mod Blocks
pub mod Results
