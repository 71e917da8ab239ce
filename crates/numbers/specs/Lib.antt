pub mod Classes
pub mod Editions
pub mod Limits
pub mod Marks
pub mod Refusals
pub mod Signs
pub mod Saying
