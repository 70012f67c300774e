pub mod Claims
pub mod Lines
pub mod Listings
pub mod Long
pub mod Report
