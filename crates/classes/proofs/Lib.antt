pub mod Scanning
pub mod ClassNumbers
