pub mod Tellings
pub mod AskedWhy
pub mod FirstLines
mod Knowing
pub mod Explaining
pub mod Agreeing
