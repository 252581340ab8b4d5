pub mod Heads
pub mod Positions
