pub mod Reaching
pub mod Turns
pub mod Beginnings
