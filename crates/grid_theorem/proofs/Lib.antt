pub mod Along
pub mod Grid
