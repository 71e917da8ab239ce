pub mod Interfaces
pub mod Demands
pub mod Functions
pub mod Exports
