pub mod Answers
pub mod Entries
pub mod Given
pub mod Offsets
pub mod Sessions
pub mod Sizes
pub mod Told
pub mod Written
