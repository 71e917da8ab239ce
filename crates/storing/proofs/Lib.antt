pub mod Keeping
mod Answers
mod Plain
mod Squeezing
