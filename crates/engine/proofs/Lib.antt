pub mod Empty
pub mod Prepared
