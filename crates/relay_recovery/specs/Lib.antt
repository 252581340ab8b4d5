pub mod Recovering
pub mod Repairing
