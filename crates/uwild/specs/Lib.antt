pub mod Expression
pub mod Readings
pub mod Reads
pub mod Sets
pub mod Walks
