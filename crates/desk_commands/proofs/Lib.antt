mod Exits
mod Numbers
mod Points
