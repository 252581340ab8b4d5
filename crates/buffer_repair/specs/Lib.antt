pub mod Finding
pub mod Keeping
pub mod Parts
pub mod Remains
pub mod Shutting
