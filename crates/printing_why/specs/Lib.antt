pub mod WhyLine
pub mod Splits
pub mod Whys
