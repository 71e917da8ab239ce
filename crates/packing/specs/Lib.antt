pub mod Padding
pub mod Tables
