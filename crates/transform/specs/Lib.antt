pub mod Grid
pub mod Transform
