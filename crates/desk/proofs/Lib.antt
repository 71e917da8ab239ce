pub mod RanLines
mod Points
pub mod Answered
mod AskExits
mod Made
mod Said
mod Shown
