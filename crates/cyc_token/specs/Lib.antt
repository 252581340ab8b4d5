pub mod Faults
pub mod Token
