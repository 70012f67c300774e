pub mod Own
pub mod Trail
pub mod Turn
