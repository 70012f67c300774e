pub mod GridCalls
