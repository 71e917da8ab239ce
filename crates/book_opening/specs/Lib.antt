pub mod Opening
pub mod State
