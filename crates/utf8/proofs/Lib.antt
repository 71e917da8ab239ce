pub mod Walk
pub mod Rfc3629
pub mod Ascii
pub mod Changes
mod Forms
mod Exits
pub mod StdUtf8
