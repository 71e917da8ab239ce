pub mod Bytes
pub mod Places
pub mod BracketExits
pub mod Runs
pub mod Stored
