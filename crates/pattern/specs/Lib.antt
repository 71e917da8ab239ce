pub mod Patterns
pub mod Storing
pub mod Runs
pub mod Post
