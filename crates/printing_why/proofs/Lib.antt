mod Words
mod Spots
mod Told
mod NamedNodes
mod WhyExits
pub mod SplitLines
