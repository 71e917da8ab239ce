pub mod Nodes
pub mod Fitting
pub mod KindLines
pub mod Lengths
pub mod Soundness
pub mod Opened
pub mod Given
pub mod Lines
