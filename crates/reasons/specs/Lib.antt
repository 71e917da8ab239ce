pub mod Why
pub mod Named
