pub mod Residues
pub mod Stepped
