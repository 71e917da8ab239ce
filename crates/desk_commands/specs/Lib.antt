pub mod Commands
pub mod Parts
