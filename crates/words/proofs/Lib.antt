pub mod Bytes
pub mod Congruence
pub mod Halves
pub mod Masks
