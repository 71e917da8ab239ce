pub mod Changes
pub mod Clearing
pub mod Trial
pub mod Symbols
pub mod Offsets
