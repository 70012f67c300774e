pub mod OnGrid
pub mod Tests
