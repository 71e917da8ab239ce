pub mod Openings
pub mod Following
pub mod Functions
pub mod Exports
