pub mod Rows
pub mod Putting
pub mod LineRooms
