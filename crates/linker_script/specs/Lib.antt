pub mod Finding
pub mod Skip
pub mod Trim
pub mod Parts
pub mod Blocks
