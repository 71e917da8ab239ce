pub mod Pieces
pub mod Front
pub mod Texts
pub mod Same
pub mod Each
