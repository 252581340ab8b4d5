pub mod AfterRestart
mod Lines
pub mod Printed
pub mod Writes
