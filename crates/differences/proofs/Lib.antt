pub mod Binomials
pub mod Listed
pub mod Lowest
pub mod Neighbours
pub mod Sums
pub mod Tables
