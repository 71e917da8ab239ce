pub mod Building
pub mod State
pub mod Events
