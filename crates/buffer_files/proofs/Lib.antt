pub mod FileFaults
pub mod Founds
pub mod Rows
