pub mod Keys
pub mod Rows
pub mod Answers
pub mod Pieces
pub mod Escapes
