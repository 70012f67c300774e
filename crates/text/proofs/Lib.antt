pub mod Pieces
pub mod Decimal
pub mod Integer
pub mod Over
pub mod Spaced
