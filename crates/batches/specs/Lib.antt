pub mod Batch
pub mod Prepared
