mod Holding
mod JournalChecks
mod LineChecks
pub mod LineRows
mod NodeChecks
