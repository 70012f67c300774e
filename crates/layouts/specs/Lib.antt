pub mod AnswerWords
pub mod Layout
pub mod Lengths
pub mod SessionWords
pub mod SizeWords
pub mod Statement
