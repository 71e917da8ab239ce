pub mod Splitting
pub mod Positions
