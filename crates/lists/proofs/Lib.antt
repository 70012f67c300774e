pub mod Lists
pub mod Tabulate
