pub mod Rows
pub mod Staying
