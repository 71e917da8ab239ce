pub mod PaddingLaws
pub mod TableLaws
pub mod Packings
pub mod Turns
pub mod Windows
pub mod Parts
pub mod Alike
