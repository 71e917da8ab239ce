mod Turns
mod Scripts
mod Inputs
