pub mod Matching
pub mod Walk
pub mod Ranks
pub mod Names
pub mod Offsets
