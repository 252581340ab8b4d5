pub mod Callers
pub mod Ports
