pub mod Batches
pub mod Said
