pub mod Books
pub mod Layout
pub mod Edits
pub mod Sanity
pub mod View
pub mod Lending
