pub mod Computing
pub mod Theorem
pub mod RunTheorem
mod LateToken
pub mod OffsetTheorem
pub mod WhyTheorem
