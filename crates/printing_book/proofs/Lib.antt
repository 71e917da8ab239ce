pub mod Pieces
pub mod Numbers
pub mod ShownDump
pub mod Fields
pub mod ShownLines
