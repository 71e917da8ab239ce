pub mod Stages
pub mod Deciders
pub mod Unmatched
pub mod NameTests
pub mod Offsets
mod LineTests
mod Leading
