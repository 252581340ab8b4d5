pub mod Examples
pub mod Digits
pub mod Growing
pub mod Lines
pub mod Pending
pub mod Writing
