pub mod Article
pub mod Content
pub mod Faults
pub mod Header
pub mod Readings
pub mod Reads
