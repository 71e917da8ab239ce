pub mod States
pub mod NodeEvents
pub mod TakenEvents
pub mod Kept
pub mod LineEvents
