pub mod Matchers
