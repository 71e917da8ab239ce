pub mod Scripts
pub mod Events
pub mod Lines
pub mod KnownReadings
pub mod Rules
pub mod Standing
pub mod Refusing
