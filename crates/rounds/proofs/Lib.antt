pub mod Blocks
pub mod Lines
pub mod Multiples
pub mod Rounds
pub mod Splice
