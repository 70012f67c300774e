pub mod Accepted
pub mod Demand3
pub mod Mirror
pub mod Refused
pub mod Report
pub mod Said
pub mod Taken
