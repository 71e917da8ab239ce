pub mod Searches
pub mod Trimming
mod Points
pub mod Skipping
pub mod Unclosed
pub mod Blocks
