pub mod Desk
pub mod Answers
pub mod Asked
pub mod Edits
pub mod Questions
