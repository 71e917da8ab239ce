pub mod Histories
pub mod Demand
pub mod Resumed
pub mod Offsets
pub mod KnownHistories
