pub mod Errors
pub mod Numerals
pub mod Pieces
pub mod Commands
pub mod Text
