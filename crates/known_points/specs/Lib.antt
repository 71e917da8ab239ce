pub mod Tables
pub mod KnownPoints
pub mod RunPoints
pub mod OffsetPoints
pub mod WhyPoints
