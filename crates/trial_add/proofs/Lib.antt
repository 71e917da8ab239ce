mod AskedAdd
pub mod Appending
