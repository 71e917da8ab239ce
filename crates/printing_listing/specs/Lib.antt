pub mod Listing
pub mod Script
pub mod SymbolLines
