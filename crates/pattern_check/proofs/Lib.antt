mod Stored
pub mod Negations
pub mod Closings
mod Refusals
