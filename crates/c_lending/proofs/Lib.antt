pub mod EditExits
pub mod Lending
