mod ElementExits
pub mod Latest
mod Turns
