pub mod Tests
pub mod Post
