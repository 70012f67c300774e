pub mod Divisibility
pub mod Exponent
pub mod Legendre
pub mod Order
pub mod Remainder
pub mod Ring
