pub mod Stepping
pub mod Exits
