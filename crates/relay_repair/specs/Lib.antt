pub mod Refusing
pub mod Repairing
pub mod Reviving
pub mod Telling
