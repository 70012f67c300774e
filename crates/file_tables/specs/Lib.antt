pub mod FileTables
pub mod Filling
pub mod OnGrid
pub mod Order
pub mod Taken
