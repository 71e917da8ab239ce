pub mod States
pub mod EachEvent
pub mod Opens
pub mod Refusing
pub mod RefusalPlaces
