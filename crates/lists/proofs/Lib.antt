pub mod PiecesLaws
pub mod FrontLaws
pub mod Tests
pub mod SameLaws
pub mod Tested
