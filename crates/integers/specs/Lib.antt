pub mod Exponent
pub mod Modulo
