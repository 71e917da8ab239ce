pub mod Digits
pub mod Pieces
