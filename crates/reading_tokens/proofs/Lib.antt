pub mod Words
pub mod Enders
pub mod Ends
