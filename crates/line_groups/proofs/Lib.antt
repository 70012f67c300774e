pub mod GridLines
