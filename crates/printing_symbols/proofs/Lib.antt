pub mod Pieces
pub mod Counted
pub mod Fields
pub mod Asked
