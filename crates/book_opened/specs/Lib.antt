pub mod Opened
pub mod Given
pub mod Lines
