pub mod AlongLines
