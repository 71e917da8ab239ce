pub mod Inputs
pub mod Scripts
pub mod Answers
