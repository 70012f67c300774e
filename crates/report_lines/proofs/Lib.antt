pub mod GridLine
