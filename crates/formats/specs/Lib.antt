pub mod Bytes
pub mod Formats
