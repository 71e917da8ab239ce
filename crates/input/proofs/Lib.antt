pub mod Marks
mod Positioned
pub mod Cuts
pub mod Halves
pub mod Ends
