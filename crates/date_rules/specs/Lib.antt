pub mod Seconds
pub mod Stamps
