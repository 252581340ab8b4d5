mod Added
pub mod Turns
