pub mod Chunks
pub mod Fetch
pub mod Given
pub mod Inside
pub mod Layout
pub mod Malformed
pub mod Parts
pub mod Shown
