pub mod Bounds
pub mod Steps
pub mod Onward
pub mod Refusals
pub mod Absence
pub mod Coming
pub mod Exactly
pub mod Looking
pub mod Points
pub mod Parts
pub mod Origins
pub mod Spans
pub mod Lines
pub mod WholeNodes
mod Placing
