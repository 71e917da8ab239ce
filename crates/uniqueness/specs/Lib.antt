pub mod Unique
pub mod Promises
