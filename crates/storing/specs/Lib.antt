pub mod Keeping
pub mod Answers
pub mod Post
