pub mod Asked
mod LastNamed
pub mod Decided
mod AskedLocality
pub mod Firsts
pub mod AskedVersion
