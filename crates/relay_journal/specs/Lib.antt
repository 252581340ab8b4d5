pub mod Beginning
pub mod Reading
pub mod Writing
